-- A task graph: how long each task runs, and which task needs what of which. Tasks go by number, counted from 0.
use Rattle.std.specs.Prelude.{◌≡◌, ℕ, ◌<◌, Bool, not, List, length, ◌==◌, slice_index}
use Rattle.std.specs.List.{Contains, list_any}
use Rattle.schedule.specs.declared.Arc.{Arc}

pub record Graph : Type 0 where
  -- the duration of each task, by its number
  pub durations : List ℕ
  pub arcs : List Arc

-- how many tasks there are
abbrev pub tasks : Graph → ℕ
tasks g = length g.durations

abbrev pub duration : Graph → ℕ → ℕ
duration g t = slice_index g.durations t

-- Each arc leads from a task to one of higher number, so the graph has no cycle.
abbrev pub Forward : Graph → Type 0
Forward g = (a : Arc) → Contains g.arcs a → (a.first < a.second) × (a.second < tasks g)

-- u is an ancestor of v: arcs lead from u to v.
pub data Ancestor (g : Graph) : ℕ → ℕ → Type 0 where
  by_arc : {u v : ℕ} (a : Arc) → Contains g.arcs a → a.first ≡ u → a.second ≡ v → Ancestor g u v
  through : {u v : ℕ} (a : Arc) → Contains g.arcs a → Ancestor g u a.first → a.second ≡ v → Ancestor g u v

-- whether t is an end task: no arc leads out of it
abbrev pub is_end : Graph → ℕ → Bool
is_end g t = not (list_any (λ a. a.first == t) g.arcs)
