-- The contract is what `Runs` proves.
use Rattle.schedule.proofs.Runs.{run_is_shortest_lem}
use Rattle.schedule.proofs.laws.run_is_shortest.Goals as goal

pub returns : goal.returns
returns c = run_is_shortest_lem
