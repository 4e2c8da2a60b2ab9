-- The worked cases. The bounds are those of the relation: growth finds them by computing, and what it finds are the bounds.
use Rattle.std.proofs.Common.{◌≡◌, ℕ, zero, suc, ◌<◌, List, [], ◌∷◌, refl, subst, inl, inr, arith}
use Rattle.std.specs.List.{AllByRecursion}
use Rattle.std.proofs.lemmas.List.Elements.{All-contains, All-from_recursion, All-get_or}
use Rattle.schedule.specs.declared.Arc.{Arc}
use Rattle.schedule.specs.declared.Row.{Row}
use Rattle.schedule.specs.Graph.{Forward, Graph, tasks}
use Rattle.schedule.specs.Schedule.{Apart, InTime, Valid, at, makespan, no_row}
use Rattle.schedule.specs.Bounds.{Bounds}
use Rattle.schedule.specs.Cases.{Broken, Cases, Plans, Worked, arc, clusters, diamond, join, pair, row, rows_to}
use Rattle.schedule.specs.Growth.{found_bounds}
use Rattle.schedule.specs.Plan.{plan}
use Rattle.schedule.proofs.BoundsExist.{found_are_bounds}
use Rattle.schedule.proofs.PlanValid.{plan_is_valid_lem}

abbrev Leads : Graph → Arc → Type 0
Leads g a = (a.first < a.second) × (a.second < tasks g)

-- a graph whose arcs all lead forward, and what computes for it
work_out : (g : Graph) (es : List ℕ) (cs : List (List ℕ)) (rows : List Row) (length : ℕ)
    → AllByRecursion (Leads g) g.arcs → found_bounds g (tasks g) ≡ es → clusters g es (tasks g) ≡ cs → plan g es ≡ rows → makespan g rows ≡ length
    → Worked g es cs rows length
work_out g es cs rows length all found made planned long = record {
  forward = fw;
  bounds = bs;
  clustered = made;
  planned = planned;
  valid = subst (Valid g) planned (plan_is_valid_lem g es fw bs);
  long = long;
}
  where
    fw : Forward g
    fw a h = All-contains (Leads g) g.arcs a (All-from_recursion (Leads g) g.arcs all) h

    bs : Bounds g es
    bs = subst (Bounds g) found (found_are_bounds g fw)

plans : Plans
plans = record {
  of_pair = work_out pair _ _ _ _ (omega arith) refl refl refl refl;
  of_diamond = work_out diamond _ _ _ _ (omega arith) refl refl refl refl;
  of_slow_join = work_out (join 4) _ _ _ _ (omega arith) refl refl refl refl;
  of_fast_join = work_out (join 2) _ _ _ _ (omega arith) refl refl refl refl;
}

-- no row of task 1 is in time for task 2 at 7
too_early : (j : ℕ) → j < 3 → (at (rows_to 7) j).task ≡ 1 → InTime (join 2) 2 (at (rows_to 7) j) (row 1 2 7) → ⊥
too_early zero l e f = omega arith
too_early (suc zero) l e f = omega arith
too_early (suc (suc zero)) l e f = omega arith
too_early (suc (suc (suc j))) l e f = omega arith

-- a row of task 0 is no row of task 1
other_task : (j : ℕ) → j < 1 → (at (row 0 0 0 ∷ []) j).task ≡ 1 → ⊥
other_task zero l e = omega arith
other_task (suc j) l e = omega arith

broken : Broken
broken = record {
  unknown = λ v. omega (arith, v.known 2 (omega arith));
  twice = λ v. v.once 0 2 (omega arith) (omega arith) refl refl;
  overlap = λ v. omega (arith, v.apart 0 1 (omega arith) (omega arith) refl);
  inside = λ v. omega (arith, v.apart 0 1 (omega arith) (omega arith) refl);
  early = λ v. let f = v.fed 2 (omega arith) (arc 1 2 2) (1, omega arith, refl) refl in too_early f.0 f.1 f.2 f.3;
  missing = λ v. let c = v.complete 1 (omega arith) in other_task c.0 c.1 c.2;
}

-- what two rows of one processor keep to: they run different tasks, and apart
abbrev OnOne : Row → Row → Type 0
OnOne r s = r.processor ≡ s.processor → (r.task ≡ s.task → ⊥) × Apart (join 2) r s

-- some row of the arc's first task is in time for the arc's second, if row r runs it
abbrev Fed : Row → Arc → Type 0
Fed r a =
    a.second ≡ r.task → (j : ℕ) × (j < 3) × ((at (rows_to 8) j).task ≡ a.first) × InTime (join 2) a.delay (at (rows_to 8) j) r

own_task : (t : ℕ) → t < 3 → (at (rows_to 8) t).task ≡ t
own_task zero l = refl
own_task (suc zero) l = refl
own_task (suc (suc zero)) l = refl
own_task (suc (suc (suc t))) l = absurd (omega arith)

on_one : (i j : ℕ) → i < j → j < 3 → OnOne (at (rows_to 8) i) (at (rows_to 8) j)
on_one zero zero l m p = absurd (omega arith)
on_one (suc i) zero l m p = absurd (omega arith)
on_one zero (suc zero) l m p = ((λ e. omega (arith, e)), inl (omega arith))
on_one (suc i) (suc zero) l m p = absurd (omega arith)
on_one zero (suc (suc zero)) l m p = absurd (omega (arith, p))
on_one (suc zero) (suc (suc zero)) l m p = absurd (omega (arith, p))
on_one (suc (suc i)) (suc (suc zero)) l m p = absurd (omega arith)
on_one i (suc (suc (suc j))) l m p = absurd (omega arith)

in_time : Valid (join 2) (rows_to 8)
in_time = record {
  known = λ i l. All-get_or Known (rows_to 8) i no_row l (All-from_recursion Known (rows_to 8) (omega arith));
  once = λ i j l m p e. (on_one i j l m p).0 e;
  apart = λ i j l m p. (on_one i j l m p).1;
  fed = λ i l a h e. All-contains (Fed (at (rows_to 8) i)) arcs a
      (All-from_recursion (Fed (at (rows_to 8) i)) arcs
      (All-get_or FedAll (rows_to 8) i no_row l (All-from_recursion FedAll (rows_to 8) fed))) h e;
  complete = λ t l. (t, l, own_task t l);
}
  where
    arcs : List Arc
    arcs = (join 2).arcs

    Known : Row → Type 0
    Known r = r.task < 3

    FedAll : Row → Type 0
    FedAll r = AllByRecursion (Fed r) arcs

    -- nothing is sent to tasks 0 and 1, and what tasks 0 and 1 send to task 2 comes at 5 and 8
    fed : AllByRecursion FedAll (rows_to 8)
    fed = (
      ((λ e. absurd (omega (arith, e))), ((λ e. absurd (omega (arith, e))), tt)),
      (
        ((λ e. absurd (omega (arith, e))), ((λ e. absurd (omega (arith, e))), tt)),
        (((λ e. (0, omega arith, refl, inr (omega arith))), ((λ e. (1, omega arith, refl, inr (omega arith))), tt)), tt),
      ),
    )

pub worked_cases_lem : Cases
worked_cases_lem = record { plans = plans; broken = broken; other = record { valid = in_time; long = refl } }
