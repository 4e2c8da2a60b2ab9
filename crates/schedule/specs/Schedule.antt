-- Which lists of rows are valid schedules of a graph, and how long one takes. Processors and starts are any whole numbers from 0 on,
-- so a statement about every valid schedule speaks of every number of processors and of any number of copies.
use Rattle.std.specs.Prelude.{◌≡◌, ℕ, zero, suc, ◌+◌, ◌<◌, ◌≤◌, min, max, if◌then◌else◌, ◌⊎◌, List, [], ◌∷◌, length, Some, None, Option, ◌==◌, ◌≢◌, slice_index_or}
use Rattle.std.specs.List.{Contains}
use Rattle.std.specs.Option.{unwrap_or}
use Rattle.schedule.specs.declared.Arc.{Arc}
use Rattle.schedule.specs.declared.Row.{Row}
use Rattle.schedule.specs.Graph.{Graph, duration, is_end, tasks}

-- what is read past the last row
abbrev pub no_row : Row
no_row = record { processor = 0; task = 0; start = 0 }

-- the row at place i, counted from 0
abbrev pub at : List Row → ℕ → Row
at rows i = slice_index_or rows i no_row

-- A row ends at its start plus the duration of its task.
abbrev pub end : Graph → Row → ℕ
end g r = r.start + duration g r.task

-- One of two rows ends no later than the other starts.
abbrev pub Apart : Graph → Row → Row → Type 0
Apart g r s = (end g r ≤ s.start) ⊎ (end g s ≤ r.start)

-- What row s sends has come when row r starts: at once on the same processor, after the delay on another.
abbrev pub InTime : Graph → ℕ → Row → Row → Type 0
InTime g delay s r =
    ((s.processor ≡ r.processor) × (end g s ≤ r.start)) ⊎ ((s.processor ≢ r.processor) × (end g s + delay ≤ r.start))

pub record Valid (g : Graph) (rows : List Row) : Type 0 where
  -- each row names a task of the graph
  pub known : (i : ℕ) → i < length rows → (at rows i).task < tasks g
  -- no two rows have the same processor and task
  pub once : (i j : ℕ) → i < j → j < length rows → (at rows i).processor ≡ (at rows j).processor → (at rows i).task ≢ (at rows j).task
  -- of two rows on a processor, one ends no later than the other starts
  pub apart : (i j : ℕ) → i < j → j < length rows → (at rows i).processor ≡ (at rows j).processor → Apart g (at rows i) (at rows j)
  -- for each row and each arc into its task, some row of the arc's first task is in time
  pub fed :
      (i : ℕ) → i < length rows → (a : Arc) → Contains g.arcs a → a.second ≡ (at rows i).task
      → (j : ℕ) × (j < length rows) × ((at rows j).task ≡ a.first) × InTime g a.delay (at rows j) (at rows i)
  -- each task has a row
  pub complete : (t : ℕ) → t < tasks g → (i : ℕ) × (i < length rows) × ((at rows i).task ≡ t)

-- the earlier of two ends, of which the second may be missing
abbrev pub earlier : ℕ → Option ℕ → Option ℕ
earlier n None = Some n
earlier n (Some m) = Some (min n m)

-- the earliest end among the rows of task t
abbrev pub earliest : Graph → ℕ → List Row → Option ℕ
earliest g t [] = None
earliest g t (r ∷ rows) = if r.task == t then earlier (end g r) (earliest g t rows) else earliest g t rows

-- the greatest, over the end tasks among the first k, of the earliest end among the task's rows
abbrev pub span : Graph → List Row → ℕ → ℕ
span g rows zero = 0
span g rows (suc k) = max (span g rows k) (if is_end g k then unwrap_or (earliest g k rows) 0 else 0)

-- The makespan, or length: the greatest, over all end tasks, of the earliest end among the task's rows; 0 with no tasks.
abbrev pub makespan : Graph → List Row → ℕ
makespan g rows = span g rows (tasks g)
