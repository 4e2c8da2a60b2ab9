-- The plan is a valid schedule.
use Rattle.std.proofs.Common.{◌≡◌, ℕ, zero, suc, ◌+◌, ◌<◌, ◌≤◌, true, false, List, length, get_or, sym, refl, ap, ◌∙◌, subst, inl, inr, ⊎_elim, arith}
use Rattle.std.specs.List.{Contains}
use Rattle.std.proofs.lemmas.List.Elements.{Contains-get_or}
use Rattle.std.proofs.lemmas.Bool.{cases_Bool, cases_eq}
use Rattle.schedule.specs.declared.Arc.{Arc}
use Rattle.schedule.specs.declared.Row.{Row}
use Rattle.schedule.specs.Graph.{Forward, Graph, duration, is_end, tasks}
use Rattle.schedule.specs.Schedule.{InTime, Valid, at, end, no_row}
use Rattle.schedule.specs.Bounds.{Bounds, Set, bound}
use Rattle.schedule.specs.Growth.{cluster}
use Rattle.schedule.specs.Laws.{Before, Home}
use Rattle.schedule.specs.Plan.{home_rows, homes, marks, members, plan}
use Rattle.schedule.specs.Theorems.{PlanIsValid}
use Rattle.schedule.proofs.BoundsRise.{arc_bound}
use Rattle.schedule.proofs.Homes.{home_end}
use Rattle.schedule.proofs.Lists.{read_at}
use Rattle.schedule.proofs.Marks.{arc_from, marked_end, marked_feeds, marks_below}
use Rattle.schedule.proofs.ProcessorRows.{Follows, InTurn, at_home, ended_before, from_home, has_members, home_last, home_row, host, host_marked, hosted, input_below, input_come, members_in, rows_in_turn, timed_has}
use Rattle.schedule.proofs.RunningOrder.{before_other}

pub plan_in_turn : (g : Graph) (es : List ℕ) (i j : ℕ) → i < j → j < length (plan g es) → InTurn g es (at (plan g es) i) (at (plan g es) j)
plan_in_turn g es i j = rows_in_turn g es 0 (marks g es) i j no_row

module _ (g : Graph) (es : List ℕ) (fw : Forward g) (bs : Bounds g es) where
  -- the row of a marked task at its home
  pub record Own (t : ℕ) : Type 0 where
    pub row : Row
    pub planned : Contains (plan g es) row
    pub home : Home g es t row.processor
    pub of : row.task ≡ t
    pub ends : end g row ≡ home_end g es t

  pub own : (t : ℕ) → Contains (marks g es) t → Own t
  own t j = record { row = r.0; planned = from_home g es t j.0 r.0 home r.1; home = there; of = r.2; ends = r.3 }
    where
      home : Home g es t j.0
      home = (j.1, read_at (marks g es) t 0 j)

      r : (r : Row) × Contains (home_rows g es j.0 t) r × (r.task ≡ t) × (end g r ≡ home_end g es t)
      r = home_last g es fw bs j.0 t (marks_below g es t j)

      there : Home g es t r.0.processor
      there = subst (Home g es t) (sym (home_row g es j.0 t r.0 r.1).on) home

  -- what feeds a row
  abbrev Feeder : Arc → Row → Type 0
  Feeder a r = (s : Row) × Contains (plan g es) s × (s.task ≡ a.first) × InTime g a.delay s r

  -- a row r of the plan, on the home of v
  module _ (r : Row) (planned : Contains (plan g es) r) where
    abbrev v : ℕ
    v = host g es r

    abbrev C : Set
    C = cluster g es v

    home : Home g es v r.processor
    home = hosted g es r planned

    here : Contains (home_rows g es r.processor v) r
    here = at_home g es v r planned home

    in_members : (r.task < suc v) × (C r.task ≡ true)
    in_members = members_in g es v r.task (home_row g es r.processor v r here).of

    module _ (a : Arc) (h : Contains g.arcs a) (e : a.second ≡ r.task) where
      second_in : C a.second ≡ true
      second_in = subst (λ x. C x ≡ true) (sym e) in_members.1

      first_below : a.first < v
      first_below = input_below g es fw r.processor v r here a h e

      in_order : Before es a.first r.task
      in_order =
          ⊎_elim
          (λ p. inr (p, omega (arith, fw a h, e)))
          (λ np. inl
          (omega (arith, np, subst (λ x. bound es a.first + duration g a.first ≤ bound es x) e (arc_bound g es fw bs a h))))
          (cases_eq (bound es a.first) (bound es r.task))

      -- an input from inside the cluster stands earlier on the same processor
      inside : C a.first ≡ true → Feeder a r
      inside k = (
        s.0,
        from_home g es v r.processor s.0 home s.1,
        s.2,
        inl ((home_row g es r.processor v s.0 s.1).on, before),
      )
        where
          s : (s : Row) × Contains (home_rows g es r.processor v) s × (s.task ≡ a.first)
          s =
              timed_has g C (homes g es v) r.processor 0 a.first (members g es v)
              (has_members g es v a.first (omega (arith, first_below)) k)

          before : end g s.0 ≤ r.start
          before =
              ended_before g es r.processor v s.0 r s.1 here (subst (λ x. Before es x r.task) (sym s.2) in_order)

      -- one from outside has come from its home, which is another processor
      outside : C a.first ≡ false → Feeder a r
      outside f = (o.row, o.planned, o.of, inr (elsewhere, late))
        where
          o : Own a.first
          o = own a.first (marked_feeds g es fw v a.first (host_marked g es r planned) (a, h, refl, second_in, f))

          elsewhere : o.row.processor ≡ r.processor → ⊥
          elsewhere p = omega (arith, first_below, sym o.home.1 ∙ ap (λ x. get_or (marks g es) x 0) p ∙ home.1)

          late : end g o.row + a.delay ≤ r.start
          late = omega (arith, o.ends, input_come g es fw r.processor v r here a h e f)

      feeder : Feeder a r
      feeder = ⊎_elim inside outside (cases_Bool (C a.first))

  pub plan_known : (r : Row) → Contains (plan g es) r → r.task < tasks g
  plan_known r i = omega (arith, (in_members r i).0, marks_below g es (host g es r) (host_marked g es r i))

  -- a task is an end task, and has a home, or feeds a row of a higher task, and so has a row
  plan_complete : (n t : ℕ) → tasks g ≤ t + n → t < tasks g → (r : Row) × Contains (plan g es) r × (r.task ≡ t)
  plan_complete zero t h small = absurd (omega arith)
  plan_complete (suc n) t h small =
      ⊎_elim
      (λ e. let o = own t (marked_end g es t small e) in (o.row, o.planned, o.of))
      (λ e. let a = arc_from g t e in
      let r = plan_complete n a.0.second (omega (arith, h, fw a.0 a.1, a.2)) (fw a.0 a.1).1 in
      let f = feeder r.0 r.1 a.0 a.1 (sym r.2) in
      (f.0, f.1, f.2 ∙ a.2))
      (cases_Bool (is_end g t))

  plan_follows : (i j : ℕ) → i < j → j < length (plan g es) → (at (plan g es) i).processor ≡ (at (plan g es) j).processor
      → Follows g (Before es) (at (plan g es) i) (at (plan g es) j)
  plan_follows i j l m p = ⊎_elim (λ n. absurd (omega (arith, n, p))) (λ f. f.1) (plan_in_turn g es i j l m)

  plan_valid : Valid g (plan g es)
  plan_valid = record {
    known = λ i l. plan_known (at (plan g es) i) (Contains-get_or (plan g es) i no_row l);
    once = λ i j l m p e. before_other es (at (plan g es) i).task (at (plan g es) j).task (plan_follows i j l m p).1 e;
    apart = λ i j l m p. inl (plan_follows i j l m p).0;
    fed = λ i l a h e.
        let f = feeder (at (plan g es) i) (Contains-get_or (plan g es) i no_row l) a h e in
        let j = f.1 in (
          j.0,
          j.1,
          ap (λ r. r.task) (read_at (plan g es) f.0 no_row j) ∙ f.2,
          subst (λ s. InTime g a.delay s (at (plan g es) i)) (sym (read_at (plan g es) f.0 no_row j)) f.3,
        );
    complete = λ t l.
        let r = plan_complete (tasks g) t (omega arith) l in
        let j = r.1 in
        (j.0, j.1, ap (λ r. r.task) (read_at (plan g es) r.0 no_row j) ∙ r.2);
  }

pub plan_is_valid_lem : PlanIsValid
plan_is_valid_lem = plan_valid
