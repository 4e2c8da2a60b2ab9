-- The contract is what `BoundsExist` proves.
use Rattle.schedule.proofs.BoundsExist.{bounds_exist_and_are_unique_lem}
use Rattle.schedule.proofs.theorems.bounds_exist_and_are_unique.Goals as goal

pub returns : goal.returns
returns c = bounds_exist_and_are_unique_lem
