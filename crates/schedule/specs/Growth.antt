-- How the cluster of a task grows. The set that grows at v is held without v itself: all its tasks are ancestors of v.
use Rattle.std.specs.Prelude.{ℕ, zero, suc, min, Bool, false, if◌then◌else◌, ◌&&◌, List, [], ◌∷◌, ◌++◌, ◌==◌, nat_lt}
use Rattle.schedule.specs.declared.Arc.{Arc}
use Rattle.schedule.specs.Graph.{Graph, tasks}
use Rattle.schedule.specs.Bounds.{Set, arrival, bound, enters, front, reach, run, with}

abbrev pub none : Set
none u = false

-- the lowest first task of those of the arcs that enter S and arrive at f; no task's number where there is none
abbrev pub lowest : Graph → List ℕ → Set → ℕ → List Arc → ℕ
lowest g es S f [] = tasks g
lowest g es S f (a ∷ rest) =
    if (enters S a && arrival g es a == f) then min a.first (lowest g es S f rest) else lowest g es S f rest

-- the lowest first task of the arcs that enter S and whose arrival is its front
abbrev pub next : Graph → List ℕ → Set → ℕ
next g es S = lowest g es S (front g es S) g.arcs

-- whether growth at v goes on with K: the run of K is below the front of K with v
abbrev pub goes_on : Graph → List ℕ → ℕ → Set → Bool
goes_on g es v K = nat_lt (run g es v K) (front g es (with K v))

-- a turn of growth at v: it adds a task while growth goes on
abbrev pub turn : Graph → List ℕ → ℕ → Set → Set
turn g es v K = if goes_on g es v K then with K (next g es (with K v)) else K

-- what growth at v has added to {v} after k turns
abbrev pub grown : Graph → List ℕ → ℕ → ℕ → Set
grown g es v zero = none
grown g es v (suc k) = turn g es v (grown g es v k)

-- the least reach of growth's sets, up to turn k
abbrev pub least_reach : Graph → List ℕ → ℕ → ℕ → ℕ
least_reach g es v zero = reach g es v none
least_reach g es v (suc k) = min (least_reach g es v k) (reach g es v (grown g es v (suc k)))

-- the bound of v as growth finds it with the bounds of the tasks below: growth has ended after v turns
abbrev pub found_bound : Graph → List ℕ → ℕ → ℕ
found_bound g es v = least_reach g es v v

-- the bounds of the first n tasks as growth finds them, task by task
abbrev pub found_bounds : Graph → ℕ → List ℕ
found_bounds g zero = []
found_bounds g (suc n) = found_bounds g n ++ found_bound g (found_bounds g n) n ∷ []

-- the earliest set of growth, from turn k to turn k + n, whose reach is the bound of v
abbrev pub earliest_set : Graph → List ℕ → ℕ → ℕ → ℕ → Set
earliest_set g es v zero k = grown g es v k
earliest_set g es v (suc n) k =
    if reach g es v (grown g es v k) == bound es v then grown g es v k else earliest_set g es v n (suc k)

-- The cluster of v: v, and the earliest set of growth whose reach is the bound of v.
abbrev pub cluster : Graph → List ℕ → ℕ → Set
cluster g es v = with (earliest_set g es v v 0) v
