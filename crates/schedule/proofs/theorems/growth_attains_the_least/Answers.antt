-- The contract is what `Clusters` proves.
use Rattle.schedule.proofs.Clusters.{growth_attains_the_least_lem}
use Rattle.schedule.proofs.theorems.growth_attains_the_least.Goals as goal

pub returns : goal.returns
returns c = growth_attains_the_least_lem
