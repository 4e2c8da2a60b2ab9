-- The contract is what `Sizes` proves.
use Rattle.schedule.proofs.Sizes.{numbers_fit_lem}
use Rattle.schedule.proofs.theorems.numbers_fit.Goals as goal

pub returns : goal.returns
returns c = numbers_fit_lem
