-- The bound of a task: how early it can start at all. The bounds of a graph are a list, by task number; what is said here of a task
-- looks only at the bounds of tasks below it, so the bounds are fixed one after the other.
use Rattle.std.specs.Prelude.{◌≡◌, ℕ, zero, suc, ◌+◌, ◌<◌, ◌≤◌, max, Bool, true, if◌then◌else◌, not, ◌&&◌, ◌||◌, List, [], ◌∷◌, length, ◌==◌, nat_lt, slice_index}
use Rattle.schedule.specs.declared.Arc.{Arc}
use Rattle.schedule.specs.Graph.{Ancestor, Graph, duration, tasks}

-- a set of tasks, by its test
abbrev pub Set : Type 0
Set = ℕ → Bool

abbrev pub with : Set → ℕ → Set
with K v u = u == v || K u

abbrev pub bound : List ℕ → ℕ → ℕ
bound es t = slice_index es t

-- whether t, of higher number than u, runs before it
abbrev pub sooner : List ℕ → ℕ → ℕ → Bool
sooner es t u = nat_lt (bound es t) (bound es u)

-- task t, of higher number than all of us, put in before the first that it runs before
abbrev pub placed : List ℕ → ℕ → List ℕ → List ℕ
placed es t [] = t ∷ []
placed es t (u ∷ us) = if sooner es t u then t ∷ u ∷ us else u ∷ placed es t us

-- the tasks below n in running order: rising bound, and among equal bounds rising number
abbrev pub order : List ℕ → ℕ → List ℕ
order es zero = []
order es (suc n) = placed es n (order es n)

-- when a run that has come to tick t is past task u: if u is in K, it runs as early as possible but not before its bound
abbrev pub after : Graph → List ℕ → Set → ℕ → ℕ → ℕ
after g es K t u = if K u then max t (bound es u) + duration g u else t

-- the end of running those of us that are in K singly, in their order, from tick t on
abbrev pub run_from : Graph → List ℕ → Set → ℕ → List ℕ → ℕ
run_from g es K t [] = t
run_from g es K t (u ∷ us) = run_from g es K (after g es K t u) us

-- The run of K, of tasks below n: the end of running them singly in running order, each as early as possible but not before its bound.
abbrev pub run : Graph → List ℕ → ℕ → Set → ℕ
run g es n K = run_from g es K 0 (order es n)

-- The arrival of an arc: when what it carries comes from another processor, at the earliest.
abbrev pub arrival : Graph → List ℕ → Arc → ℕ
arrival g es a = bound es a.first + duration g a.first + a.delay

-- whether an arc leads from outside K to inside
abbrev pub enters : Set → Arc → Bool
enters K a = K a.second && not (K a.first)

-- the greatest arrival of those of the arcs that lead from outside K to inside, or 0
abbrev pub latest : Graph → List ℕ → Set → List Arc → ℕ
latest g es K [] = 0
latest g es K (a ∷ rest) = max (if enters K a then arrival g es a else 0) (latest g es K rest)

-- The front of K: the greatest arrival of an arc from outside K to inside, or 0.
abbrev pub front : Graph → List ℕ → Set → ℕ
front g es K = latest g es K g.arcs

-- All tasks of K are ancestors of v.
abbrev pub Ancestors : Graph → ℕ → Set → Type 0
Ancestors g v K = (u : ℕ) → K u ≡ true → Ancestor g u v

-- The reach of K at v: how early v can start where just the tasks of K run on its processor before it.
abbrev pub reach : Graph → List ℕ → ℕ → Set → ℕ
reach g es v K = max (run g es v K) (front g es (with K v))

-- b is the least reach at v over all sets of ancestors of v.
pub record Least (g : Graph) (es : List ℕ) (v b : ℕ) : Type 0 where
  pub below : (K : Set) → Ancestors g v K → b ≤ reach g es v K
  pub attained : (K : Set) × Ancestors g v K × (reach g es v K ≡ b)

-- The first n of es are the bounds of the first n tasks.
abbrev pub BoundsTo : Graph → List ℕ → ℕ → Type 0
BoundsTo g es n = (v : ℕ) → v < n → Least g es v (bound es v)

-- es are the bounds of the graph: one for each task, and each the least reach over all sets of the task's ancestors.
pub record Bounds (g : Graph) (es : List ℕ) : Type 0 where
  pub each : length es ≡ tasks g
  pub least : BoundsTo g es (tasks g)
