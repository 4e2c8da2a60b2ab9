-- The contract is what `Makespans` proves.
use Rattle.schedule.proofs.Makespans.{makespan_is_least_lem}
use Rattle.schedule.proofs.laws.makespan_is_least.Goals as goal

pub returns : goal.returns
returns c = makespan_is_least_lem
