-- What the definitions that compute come to, in words that name no computation. Each law is the contract of a function of the crate.
use Rattle.std.specs.Prelude.{◌≡◌, ℕ, ◌+◌, ◌<◌, ◌≤◌, true, false, ◌⊎◌, ◌↔◌, List, length, ◌≢◌, slice_index}
use Rattle.std.specs.List.{Contains}
use Rattle.schedule.specs.declared.Arc.{Arc}
use Rattle.schedule.specs.declared.Row.{Row}
use Rattle.schedule.specs.Graph.{Forward, Graph, duration, is_end, tasks}
use Rattle.schedule.specs.Schedule.{Valid, at, end, makespan}
use Rattle.schedule.specs.Bounds.{Bounds, Set, arrival, bound, enters, front, order, run, with}
use Rattle.schedule.specs.Growth.{cluster, grown}
use Rattle.schedule.specs.Plan.{marks, plan}

-- An end task is one that no arc leads out of.
abbrev pub EndsHaveNoArcOut : Type 0
EndsHaveNoArcOut =
    (g : Graph) (t : ℕ) → (is_end g t ≡ true) ↔ ((a : Arc) → Contains g.arcs a → a.first ≢ t)

-- By tick m each end task has a row that has ended.
abbrev pub EndedBy : Graph → List Row → ℕ → Type 0
EndedBy g rows m =
    (t : ℕ) → t < tasks g → is_end g t ≡ true → (i : ℕ) × (i < length rows) × ((at rows i).task ≡ t) × (end g (at rows i) ≤ m)

-- The makespan of a valid schedule is the least tick by which each end task has a row that has ended.
abbrev pub MakespanIsLeast : Type 0
MakespanIsLeast =
    (g : Graph) (rows : List Row) → Valid g rows → (m : ℕ) → (makespan g rows ≤ m) ↔ EndedBy g rows m

-- u runs before w: its bound is lower, or the bounds are equal and its number is lower.
abbrev pub Before : List ℕ → ℕ → ℕ → Type 0
Before es u w = (bound es u < bound es w) ⊎ ((bound es u ≡ bound es w) × (u < w))

-- The running order is the tasks below n, each once, sorted.
pub record Sorted (es : List ℕ) (n : ℕ) : Type 0 where
  pub many : length (order es n) ≡ n
  pub all : (u : ℕ) → u < n → Contains (order es n) u
  pub none_else : (u : ℕ) → Contains (order es n) u → u < n
  pub rising : (i j : ℕ) → i < j → j < length (order es n) → Before es (slice_index (order es n) i) (slice_index (order es n) j)

abbrev pub OrderIsSorted : Type 0
OrderIsSorted = (es : List ℕ) (n : ℕ) → Sorted es n

-- Of two tasks with these starts and durations, one ends no later than the other starts.
abbrev pub Separate : (ℕ → ℕ) → (ℕ → ℕ) → ℕ → ℕ → Type 0
Separate start d u w = (start u + d u ≤ start w) ⊎ (start w + d w ≤ start u)

-- These starts run the tasks of K below n singly, in whatever order, none before its bound and all ended by tick s.
pub record Singly (g : Graph) (es : List ℕ) (n : ℕ) (K : Set) (start : ℕ → ℕ) (s : ℕ) : Type 0 where
  pub from : (u : ℕ) → u < n → K u ≡ true → bound es u ≤ start u
  pub to : (u : ℕ) → u < n → K u ≡ true → start u + duration g u ≤ s
  pub apart : (u w : ℕ) → u < n → w < n → K u ≡ true → K w ≡ true → (u ≢ w) → Separate start (duration g) u w

-- The run of a set is the least tick by which one processor can have run it singly, no task before its bound.
abbrev pub RunIsShortest : Type 0
RunIsShortest =
    (g : Graph) (es : List ℕ) (n : ℕ) (K : Set)
    → ((start : ℕ → ℕ) × Singly g es n K start (run g es n K)) × ((start : ℕ → ℕ) (s : ℕ) → Singly g es n K start s → run g es n K ≤ s)

-- By tick m what every arc from outside K to inside carries has come.
abbrev pub ComeBy : Graph → List ℕ → Set → ℕ → Type 0
ComeBy g es K m = (a : Arc) → Contains g.arcs a → enters K a ≡ true → arrival g es a ≤ m

-- The front of a set is the least tick by which what every arc from outside to inside carries has come.
abbrev pub FrontIsLeast : Type 0
FrontIsLeast = (g : Graph) (es : List ℕ) (K : Set) (m : ℕ) → (front g es K ≤ m) ↔ ComeBy g es K m

-- From K, growth at v comes to L by adding the first task of an arc from outside K with v to inside whose arrival is the front, the
-- lowest number if there are several.
pub record Adds (g : Graph) (es : List ℕ) (v : ℕ) (K L : Set) : Type 0 where
  pub task : ℕ
  pub adds : L ≡ with K task
  pub brings : (a : Arc) × Contains g.arcs a × (a.first ≡ task) × (enters (with K v) a ≡ true) × (arrival g es a ≡ front g es (with K v))
  pub lowest : (a : Arc) → Contains g.arcs a → enters (with K v) a ≡ true → arrival g es a ≡ front g es (with K v) → task ≤ a.first

-- While the run of its set is below the front growth adds a task, and from then on its set stays.
pub record Grows (g : Graph) (es : List ℕ) (v : ℕ) : Type 0 where
  pub starts : (u : ℕ) → grown g es v 0 u ≡ false
  pub goes_on : (k : ℕ) → run g es v (grown g es v k) < front g es (with (grown g es v k) v)
      → Adds g es v (grown g es v k) (grown g es v (k + 1))
  pub ends : (k : ℕ) → front g es (with (grown g es v k) v) ≤ run g es v (grown g es v k) → grown g es v (k + 1) ≡ grown g es v k

abbrev pub GrowthAddsTheLowest : Type 0
GrowthAddsTheLowest = (g : Graph) (es : List ℕ) (v : ℕ) → Forward g → Grows g es v

-- u feeds the cluster of v: an arc leads from u, outside it, into it.
abbrev pub Feeds : Graph → List ℕ → ℕ → ℕ → Type 0
Feeds g es v u = (a : Arc) × Contains g.arcs a × (a.first ≡ u) × (cluster g es v a.second ≡ true) × (cluster g es v u ≡ false)

-- The marked tasks, in falling order, are the end tasks and those that feed the cluster of a marked task, and no others.
pub record Marked (g : Graph) (es : List ℕ) : Type 0 where
  pub falling : (i j : ℕ) → i < j → j < length (marks g es) → slice_index (marks g es) j < slice_index (marks g es) i
  pub tasks_only : (u : ℕ) → Contains (marks g es) u → u < tasks g
  pub ends : (u : ℕ) → u < tasks g → is_end g u ≡ true → Contains (marks g es) u
  pub fed : (v u : ℕ) → Contains (marks g es) v → Feeds g es v u → Contains (marks g es) u
  pub needed : (u : ℕ) → Contains (marks g es) u → (is_end g u ≡ true) ⊎ ((v : ℕ) × Contains (marks g es) v × Feeds g es v u)

abbrev pub MarksAreNeeded : Type 0
MarksAreNeeded = (g : Graph) (es : List ℕ) → Forward g → Marked g es

-- Processor p is the home of v: marked tasks have their homes in order, from processor 0 on.
abbrev pub Home : Graph → List ℕ → ℕ → ℕ → Type 0
Home g es v p = (p < length (marks g es)) × (slice_index (marks g es) p ≡ v)

-- By tick m all is there for row r, which runs in the cluster C: every copy before it on its processor has ended, and every input from
-- outside C has come, which is when its task has ended at its home, and then the delay.
pub record Ready (g : Graph) (es : List ℕ) (C : Set) (r : Row) (m : ℕ) : Type 0 where
  pub free : (s : Row) → Contains (plan g es) s → s.processor ≡ r.processor → Before es s.task r.task → end g s ≤ m
  pub fed :
      (a : Arc) → Contains g.arcs a → a.second ≡ r.task → C a.first ≡ false
      → (s : Row) → Contains (plan g es) s → s.task ≡ a.first → Home g es a.first s.processor → end g s + a.delay ≤ m

-- What the rows of the plan are.
pub record Planned (g : Graph) (es : List ℕ) : Type 0 where
  -- the home of v runs the cluster of v
  pub runs : (v p : ℕ) → Home g es v p → (u : ℕ) → cluster g es v u ≡ true
      → (r : Row) × Contains (plan g es) r × (r.processor ≡ p) × (r.task ≡ u)
  -- and nothing else runs
  pub homed : (r : Row) → Contains (plan g es) r → (v : ℕ) × Home g es v r.processor × (cluster g es v r.task ≡ true)
  -- rows stand by processor, then in running order
  pub ordered :
      (i j : ℕ) → i < j → j < length (plan g es)
      → ((at (plan g es) i).processor < (at (plan g es) j).processor)
      ⊎ (((at (plan g es) i).processor ≡ (at (plan g es) j).processor) × Before es (at (plan g es) i).task (at (plan g es) j).task)
  -- a copy starts as soon as all is there for it
  pub starts :
      (v : ℕ) (r : Row) → Contains (plan g es) r → Home g es v r.processor
      → (m : ℕ) → (r.start ≤ m) ↔ Ready g es (cluster g es v) r m

abbrev pub PlanStartsWhenReady : Type 0
PlanStartsWhenReady = (g : Graph) (es : List ℕ) → Forward g → Bounds g es → Planned g es
