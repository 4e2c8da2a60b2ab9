-- How far the climb to the root has come.
use Rattle.std.proofs.Common.{◌≡◌, ◌<◌, ◌≤◌, ◌⊎◌, drop}
use Rattle.segment_tree.specs.Tree.{Above}
use Rattle.segment_tree.proofs.Climb.{Climbed}
use Rattle.segment_tree.proofs.tree.set_leaf.Given as goal

abbrev pub invariant-loop-place : goal.invariant-loop-place
invariant-loop-place g l =
    (1 ≤ l.place) × (l.place < 512)
    × (drop 256 l.places ≡ drop 256 l.initial.places)
    × ((l.place ≡ l.initial.place) ⊎ Above l.initial.place l.place)
    × Climbed g.K.Record.kind l.initial.places l.initial.place l.place l.places

abbrev pub decreases-loop-place : goal.decreases-loop-place
decreases-loop-place g l = l.place
