-- What is proved of the definitions. Each statement is the contract of a function of the crate. Durations may be 0 in all of them.
use Rattle.std.specs.Prelude.{◌≡◌, ℕ, ◌+◌, ◌*◌, ◌<◌, ◌≤◌, List, length}
use Rattle.std.specs.List.{Contains}
use Rattle.schedule.specs.declared.Arc.{Arc}
use Rattle.schedule.specs.declared.Row.{Row}
use Rattle.schedule.specs.Graph.{Forward, Graph, duration, tasks}
use Rattle.schedule.specs.Schedule.{Valid, at, makespan}
use Rattle.schedule.specs.Bounds.{Ancestors, Bounds, Least, bound, front, reach, run, with}
use Rattle.schedule.specs.Growth.{cluster, found_bound, found_bounds, grown}
use Rattle.schedule.specs.Plan.{plan}

-- Every forward graph has bounds, growth finds them, and no other list has them.
abbrev pub BoundsExistAndAreUnique : Type 0
BoundsExistAndAreUnique =
    (g : Graph) → Forward g → Bounds g (found_bounds g (tasks g)) × ((es : List ℕ) → Bounds g es → es ≡ found_bounds g (tasks g))

-- Growth at v, whatever the bounds below v are: all its sets are sets of ancestors, it has ended after v turns, and the least reach of its
-- sets is the least over all sets of ancestors.
pub record Attains (g : Graph) (es : List ℕ) (v : ℕ) : Type 0 where
  pub ancestors : (k : ℕ) → Ancestors g v (grown g es v k)
  pub ended : front g es (with (grown g es v v) v) ≤ run g es v (grown g es v v)
  pub least : Least g es v (found_bound g es v)

-- The cluster of v is the set of the earliest turn of growth whose reach is the bound, and no turn's reach is below the bound.
pub record Earliest (g : Graph) (es : List ℕ) (v : ℕ) : Type 0 where
  pub turns : ℕ
  pub is : cluster g es v ≡ with (grown g es v turns) v
  pub attains : reach g es v (grown g es v turns) ≡ bound es v
  pub earliest : (k : ℕ) → k < turns → bound es v < reach g es v (grown g es v k)
  pub least : (k : ℕ) → bound es v ≤ reach g es v (grown g es v k)

abbrev pub GrowthAttainsTheLeast : Type 0
GrowthAttainsTheLeast =
    (g : Graph) (es : List ℕ) → Forward g
    → ((v : ℕ) → Attains g es v) × (Bounds g es → (v : ℕ) → v < tasks g → Earliest g es v)

-- No valid schedule, on any number of processors and with any copies, starts a task before its bound.
abbrev pub NoEarlier : Graph → List ℕ → Type 0
NoEarlier g es = (rows : List Row) → Valid g rows → (i : ℕ) → i < length rows → bound es (at rows i).task ≤ (at rows i).start

abbrev pub NoScheduleStartsEarlier : Type 0
NoScheduleStartsEarlier = (g : Graph) (es : List ℕ) → Forward g → Bounds g es → NoEarlier g es

abbrev pub PlanIsValid : Type 0
PlanIsValid = (g : Graph) (es : List ℕ) → Forward g → Bounds g es → Valid g (plan g es)

-- p × delay is at most q × the first task's duration, on every arc.
abbrev pub Grain : Graph → ℕ → ℕ → Type 0
Grain g p q = (a : Arc) → Contains g.arcs a → p * a.delay ≤ q * duration g a.first

-- rows ends within (p + 2q) / (p + q) times the length of every valid schedule.
abbrev pub WithinFactor : Graph → List Row → Type 0
WithinFactor g rows =
    (p q : ℕ) → 1 ≤ q → Grain g p q → (other : List Row) → Valid g other → (p + q) * makespan g rows ≤ (p + 2 * q) * makespan g other

abbrev pub PlanIsShort : Type 0
PlanIsShort = (g : Graph) (es : List ℕ) → Forward g → Bounds g es → WithinFactor g (plan g es)
