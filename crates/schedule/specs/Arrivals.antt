-- The front of a set, and the task that growth adds, are what joined best arrivals say, so a segment tree with a leaf for each task keeps
-- them.
use Rattle.std.specs.Prelude.{◌≡◌, ℕ, ◌<◌, ◌≤◌, if◌then◌else◌, ◌&&◌, List, map, length, ◌==◌, slice_index_or}
use Rattle.segment_tree.specs.BestArrivals.{best_arrivals, best_read, no_arrival}
use Rattle.segment_tree.specs.Tree.{total}
use Rattle.segment_tree.specs.declared.arrivals.BestArrival.{BestArrival}
use Rattle.schedule.specs.declared.Arc.{Arc}
use Rattle.schedule.specs.Graph.{Forward, Graph, tasks}
use Rattle.schedule.specs.Bounds.{Set, arrival, enters, front}
use Rattle.schedule.specs.Growth.{next}

-- the arrival by an arc, if it leads from u, outside S, to inside; the blank if not
abbrev pub arrival_by : Graph → List ℕ → Set → ℕ → Arc → BestArrival
arrival_by g es S u a = if (a.first == u && enters S a) then best_read (record { arrival = arrival g es a; task = u }) else no_arrival

-- the best arrival from u
abbrev pub arrival_from : Graph → List ℕ → Set → ℕ → BestArrival
arrival_from g es S u = total best_arrivals (map (arrival_by g es S u) g.arcs)

-- The best of all has the front for its arrival and, unless that is 0, the task that growth adds.
pub record Arrived (g : Graph) (es : List ℕ) (S : Set) (best : BestArrival) : Type 0 where
  pub at_front : best.arrival ≡ front g es S
  pub adds : 0 < front g es S → best.task ≡ next g es S

-- A leaf for each task at least, and each leaf with the best arrival from its task.
abbrev pub FrontsAreJoinedArrivals : Type 0
FrontsAreJoinedArrivals =
    (g : Graph) (es : List ℕ) (S : Set) → Forward g
    → (leaves : List BestArrival) → tasks g ≤ length leaves → length leaves ≤ 4_294_967_296
    → ((u : ℕ) → u < length leaves → slice_index_or leaves u no_arrival ≡ arrival_from g es S u)
    → Arrived g es S (total best_arrivals leaves)
