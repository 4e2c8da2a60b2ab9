-- So many rows hold the value.
use Rattle.std.proofs.Common.{◌≡◌, take, replicate}
use Rattle.segment_tree.proofs.tree.fill.Given as goal

abbrev pub invariant-loop-row : goal.invariant-loop-row
invariant-loop-row g l = take l.row-index l.rows ≡ replicate l.row-index l.value
