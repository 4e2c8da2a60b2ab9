-- Small graphs worked by hand: their bounds, clusters, plans and lengths, and schedules that are not valid.
use Rattle.std.specs.Prelude.{◌≡◌, ℕ, zero, suc, List, [], ◌∷◌, ◌++◌}
use Rattle.schedule.specs.declared.Arc.{Arc}
use Rattle.schedule.specs.declared.Row.{Row}
use Rattle.schedule.specs.Graph.{Forward, Graph, tasks}
use Rattle.schedule.specs.Schedule.{Valid, makespan}
use Rattle.schedule.specs.Bounds.{Bounds}
use Rattle.schedule.specs.Plan.{members, plan}

abbrev pub arc : ℕ → ℕ → ℕ → Arc
arc u w d = record { first = u; second = w; delay = d }

abbrev pub row : ℕ → ℕ → ℕ → Row
row p t s = record { processor = p; task = t; start = s }

-- the clusters of the first n tasks, each in running order
abbrev pub clusters : Graph → List ℕ → ℕ → List (List ℕ)
clusters g es zero = []
clusters g es (suc n) = clusters g es n ++ members g es n ∷ []

-- What is worked out for a graph: its bounds, the cluster of each task, the plan and its length.
pub record Worked (g : Graph) (es : List ℕ) (cs : List (List ℕ)) (rows : List Row) (length : ℕ) : Type 0 where
  pub forward : Forward g
  pub bounds : Bounds g es
  pub clustered : clusters g es (tasks g) ≡ cs
  pub planned : plan g es ≡ rows
  pub valid : Valid g rows
  pub long : makespan g rows ≡ length

-- Two tasks, and what the second needs of the first comes at once from any processor.
abbrev pub pair : Graph
pair = record { durations = 1 ∷ 1 ∷ []; arcs = arc 0 1 0 ∷ [] }

-- Task 0 sends to tasks 1 and 2, which send to task 3.
abbrev pub diamond : Graph
diamond = record { durations = 2 ∷ 3 ∷ 4 ∷ 2 ∷ []; arcs = arc 0 1 6 ∷ arc 0 2 3 ∷ arc 1 3 5 ∷ arc 2 3 2 ∷ [] }

-- Tasks 0 and 1 send to task 2, with a delay of d.
abbrev pub join : ℕ → Graph
join d = record { durations = 3 ∷ 3 ∷ 1 ∷ []; arcs = arc 0 2 d ∷ arc 1 2 d ∷ [] }

-- Graphs and their plans.
pub record Plans : Type 0 where
  -- the set {1} attains the bound already, so task 0 is not taken into the cluster
  pub of_pair : Worked pair (0 ∷ 1 ∷ []) ((0 ∷ []) ∷ (1 ∷ []) ∷ []) (row 0 1 1 ∷ row 1 0 0 ∷ []) 2
  -- the set {0, 1, 3} attains 8 too, but {1, 3} comes earlier
  pub of_diamond :
      Worked diamond (0 ∷ 2 ∷ 2 ∷ 8 ∷ []) ((0 ∷ []) ∷ (0 ∷ 1 ∷ []) ∷ (0 ∷ 2 ∷ []) ∷ (1 ∷ 3 ∷ []) ∷ [])
      (row 0 1 8 ∷ row 0 3 11 ∷ row 1 0 0 ∷ row 1 2 2 ∷ row 2 0 0 ∷ []) 13
  -- a slow link: it is best to run all tasks on one processor
  pub of_slow_join :
      Worked (join 4) (0 ∷ 0 ∷ 6 ∷ []) ((0 ∷ []) ∷ (1 ∷ []) ∷ (0 ∷ 1 ∷ 2 ∷ []) ∷ []) (row 0 0 0 ∷ row 0 1 3 ∷ row 0 2 6 ∷ []) 7
  -- a faster one: it is best to run each on its own
  pub of_fast_join :
      Worked (join 2) (0 ∷ 0 ∷ 5 ∷ []) ((0 ∷ []) ∷ (1 ∷ []) ∷ (2 ∷ []) ∷ []) (row 0 2 5 ∷ row 1 1 0 ∷ row 2 0 0 ∷ []) 6

-- Tasks 0 and 1 on processor 0, and task 2 on processor 1 from tick s on.
abbrev pub rows_to : ℕ → List Row
rows_to s = row 0 0 0 ∷ row 0 1 3 ∷ row 1 2 s ∷ []

-- A task of 4 and one of no duration, with no arc.
abbrev pub dummy : Graph
dummy = record { durations = 4 ∷ 0 ∷ []; arcs = [] }

-- Schedules that are not valid, each for one rule.
pub record Broken : Type 0 where
  -- there is no task 2
  pub unknown : Valid pair (row 0 0 0 ∷ row 0 1 1 ∷ row 1 2 0 ∷ []) → ⊥
  -- processor 0 runs task 0 twice
  pub twice : Valid pair (row 0 0 0 ∷ row 0 1 1 ∷ row 0 0 2 ∷ []) → ⊥
  -- processor 0 runs task 0 up to tick 3, and task 1 from tick 2 on
  pub overlap : Valid (join 2) (row 0 0 0 ∷ row 0 1 2 ∷ row 0 2 5 ∷ []) → ⊥
  -- a task of no duration inside the run of another
  pub inside : Valid dummy (row 0 0 0 ∷ row 0 1 2 ∷ []) → ⊥
  -- what task 1 sends comes at 8
  pub early : Valid (join 2) (rows_to 7) → ⊥
  -- task 1 has no row
  pub missing : Valid pair (row 0 0 0 ∷ []) → ⊥

-- A valid schedule that is not the plan.
pub record Other : Type 0 where
  pub valid : Valid (join 2) (rows_to 8)
  pub long : makespan (join 2) (rows_to 8) ≡ 9

pub record Cases : Type 0 where
  pub plans : Plans
  pub broken : Broken
  pub other : Other
