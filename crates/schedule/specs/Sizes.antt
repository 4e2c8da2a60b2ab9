-- How large the numbers are that the planner computes, for graphs within its limits.
use Rattle.std.specs.Prelude.{ℕ, ◌+◌, ◌<◌, ◌≤◌, List, length, slice_index}
use Rattle.std.specs.List.{Contains}
use Rattle.schedule.specs.declared.Arc.{Arc}
use Rattle.schedule.specs.declared.Row.{Row}
use Rattle.schedule.specs.Graph.{Forward, Graph, duration, tasks}
use Rattle.schedule.specs.Schedule.{end, makespan}
use Rattle.schedule.specs.Bounds.{Ancestors, Bounds, BoundsTo, Set, arrival, bound, front, run, with}
use Rattle.schedule.specs.Plan.{homes, marks, plan}

-- The limits: at most 256 tasks, and durations and delays of at most 1,000,000.
pub record Small (g : Graph) : Type 0 where
  pub few : tasks g ≤ 256
  pub short : (t : ℕ) → t < tasks g → duration g t ≤ 1_000_000
  pub near : (a : Arc) → Contains g.arcs a → a.delay ≤ 1_000_000

-- While the bounds are found, task by task, with those of the first n tasks at hand: all numbers are below 2 ^ 30, and so no run is near
-- the 4,000,000,000 at which a run summary stops.
pub record GrowthFits (g : Graph) (es : List ℕ) (n : ℕ) : Type 0 where
  pub bounds : (v : ℕ) → v < n → bound es v ≤ 510_000_000
  pub runs : (v : ℕ) → v ≤ n → (K : Set) → run g es v K ≤ 768_000_000
  pub arrivals : (a : Arc) → Contains g.arcs a → a.first < n → arrival g es a ≤ 512_000_000
  pub fronts : (v : ℕ) → v ≤ n → (K : Set) → Ancestors g v K → front g es (with K v) ≤ 512_000_000

-- When the plan is made. An input comes at the end of its task at home, plus the delay.
pub record PlanFits (g : Graph) (es : List ℕ) : Type 0 where
  pub at_home : (v : ℕ) → v < tasks g → slice_index (homes g es (tasks g)) v ≤ 1_021_000_000
  pub input : (a : Arc) → Contains g.arcs a → slice_index (homes g es (tasks g)) a.first + a.delay ≤ 1_022_000_000
  pub rows : (r : Row) → Contains (plan g es) r → (r.processor < 256) × (r.task < 256) × (end g r ≤ 1_021_000_000)
  pub long : makespan g (plan g es) ≤ 1_021_000_000
  pub processors : length (marks g es) ≤ 256
  pub row_count : length (plan g es) ≤ 65_536

abbrev pub NumbersFit : Type 0
NumbersFit =
    (g : Graph) (es : List ℕ) → Forward g → Small g
    → ((n : ℕ) → n ≤ tasks g → BoundsTo g es n → GrowthFits g es n) × (Bounds g es → PlanFits g es)
