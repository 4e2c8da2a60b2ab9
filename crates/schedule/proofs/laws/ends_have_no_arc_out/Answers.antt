-- The contract is what `Marks` proves.
use Rattle.schedule.proofs.Marks.{ends_have_no_arc_out_lem}
use Rattle.schedule.proofs.laws.ends_have_no_arc_out.Goals as goal

pub returns : goal.returns
returns c = ends_have_no_arc_out_lem
