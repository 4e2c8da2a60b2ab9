-- The plan of a graph: which clusters run, on which processors, and when.
use Rattle.std.specs.Prelude.{ℕ, zero, suc, ◌+◌, ◌-◌, max, Bool, if◌then◌else◌, not, ◌&&◌, ◌||◌, List, [], ◌∷◌, ◌++◌, filter, ◌==◌, slice_index}
use Rattle.std.specs.List.{list_any}
use Rattle.schedule.specs.declared.Arc.{Arc}
use Rattle.schedule.specs.declared.Row.{Row}
use Rattle.schedule.specs.Graph.{Graph, duration, is_end, tasks}
use Rattle.schedule.specs.Bounds.{Set, order}
use Rattle.schedule.specs.Growth.{cluster}

-- the tasks of the cluster of v in running order
abbrev pub members : Graph → List ℕ → ℕ → List ℕ
members g es v = filter (cluster g es v) (order es (suc v))

-- when the input that an arc carries has come, if it leads from outside C to w: its first task u has ended at its home, at
-- slice_index homes u, and then comes the delay; 0 if the arc leads elsewhere
abbrev pub input : Set → List ℕ → ℕ → Arc → ℕ
input C homes w a = if (a.second == w && not (C a.first)) then slice_index homes a.first + a.delay else 0

-- when all inputs of w from outside C have come
abbrev pub inputs : Set → List ℕ → ℕ → List Arc → ℕ
inputs C homes w [] = 0
inputs C homes w (a ∷ rest) = max (input C homes w a) (inputs C homes w rest)

-- A copy starts when the one before it has ended, at t, and all its inputs from outside the cluster have come.
abbrev pub starts : Graph → Set → List ℕ → ℕ → ℕ → ℕ
starts g C homes t w = max t (inputs C homes w g.arcs)

-- the rows of processor p, which runs ws in order and is free from tick t on
abbrev pub timed : Graph → Set → List ℕ → ℕ → ℕ → List ℕ → List Row
timed g C homes p t [] = []
timed g C homes p t (w ∷ ws) =
    record { processor = p; task = w; start = starts g C homes t w } ∷ timed g C homes p (starts g C homes t w + duration g w) ws

-- when a processor that is free from tick t on has run ws
abbrev pub finish : Graph → Set → List ℕ → ℕ → List ℕ → ℕ
finish g C homes t [] = t
finish g C homes t (w ∷ ws) = finish g C homes (starts g C homes t w + duration g w) ws

-- the end of each of the first k tasks at its home, the processor that runs its own cluster; of a task that is not marked, and so has
-- no home, what the end would be
abbrev pub homes : Graph → List ℕ → ℕ → List ℕ
homes g es zero = []
homes g es (suc v) = homes g es v ++ finish g (cluster g es v) (homes g es v) 0 (members g es v) ∷ []

-- whether an arc leads from u, outside C, into C
abbrev pub feeds : Set → ℕ → List Arc → Bool
feeds C u arcs = list_any (λ a. a.first == u && (C a.second && not (C u))) arcs

-- whether u feeds the cluster of one of vs
abbrev pub feeds_any : Graph → List ℕ → ℕ → List ℕ → Bool
feeds_any g es u vs = list_any (λ v. feeds (cluster g es v) u g.arcs) vs

-- whether u becomes marked, if vs are the marked tasks above it
abbrev pub is_marked : Graph → List ℕ → List ℕ → ℕ → Bool
is_marked g es vs u = is_end g u || feeds_any g es u vs

-- the marked ones of the last k tasks, in falling order
abbrev pub marked : Graph → List ℕ → ℕ → List ℕ
marked g es zero = []
marked g es (suc k) = marked g es k ++ (if is_marked g es (marked g es k) (tasks g - suc k) then (tasks g - suc k) ∷ [] else [])

-- all marked tasks, in falling order: the first has processor 0 for its home, the next processor 1
abbrev pub marks : Graph → List ℕ → List ℕ
marks g es = marked g es (tasks g)

-- the rows of processor p, the home of v, which runs the cluster of v
abbrev pub home_rows : Graph → List ℕ → ℕ → ℕ → List Row
home_rows g es p v = timed g (cluster g es v) (homes g es v) p 0 (members g es v)

-- the rows of the processors from p on, which are the homes of vs
abbrev pub rows_from : Graph → List ℕ → ℕ → List ℕ → List Row
rows_from g es p [] = []
rows_from g es p (v ∷ vs) = home_rows g es p v ++ rows_from g es (suc p) vs

-- The plan: every marked task's cluster on a processor of its own.
abbrev pub plan : Graph → List ℕ → List Row
plan g es = rows_from g es 0 (marks g es)
