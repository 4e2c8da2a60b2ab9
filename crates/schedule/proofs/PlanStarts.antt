-- The plan runs each marked task's cluster at its home, and starts each copy as soon as all is there for it.
use Rattle.std.proofs.Common.{◌≡◌, ℕ, ◌+◌, ◌*◌, ◌<◌, ◌≤◌, true, false, List, get_or, sym, refl, ap, ◌∙◌, subst, inl, inr, ⊎_elim, arith}
use Rattle.std.specs.List.{Contains}
use Rattle.std.proofs.lemmas.List.Elements.{Contains-get_or}
use Rattle.schedule.specs.declared.Arc.{Arc}
use Rattle.schedule.specs.declared.Row.{Row}
use Rattle.schedule.specs.Graph.{Forward, Graph, tasks}
use Rattle.schedule.specs.Schedule.{end}
use Rattle.schedule.specs.Bounds.{Bounds, Set}
use Rattle.schedule.specs.Growth.{cluster}
use Rattle.schedule.specs.Laws.{Before, Home, PlanStartsWhenReady, Ready}
use Rattle.schedule.specs.Plan.{home_rows, homes, marks, members, plan}
use Rattle.schedule.proofs.Clusters.{cluster_most}
use Rattle.schedule.proofs.Homes.{home_end, homes_at}
use Rattle.schedule.proofs.Inputs.{inputs_fit}
use Rattle.schedule.proofs.Marks.{mark_below, marked_feeds}
use Rattle.schedule.proofs.PlanValid.{Own, own, plan_in_turn}
use Rattle.schedule.proofs.ProcessorRows.{at_home, ended_before, from_home, has_members, home_last, home_row, host, hosted, input_below, input_come, members_in, members_rise, one_row, timed_has, timed_soon}

module _ (g : Graph) (es : List ℕ) where
  module _ (fw : Forward g) (bs : Bounds g es) where
    -- the row of u at its home ends when u has ended at its home
    ends_at_home : (u : ℕ) (s : Row) → Contains (plan g es) s → s.task ≡ u → Home g es u s.processor → end g s ≡ home_end g es u
    ends_at_home u s h e home =
        let small : u < tasks g = subst (λ x. x < tasks g) home.1 (mark_below g es s.processor home.0) in
        let q = home_last g es fw bs s.processor u small in
        ap (end g) (one_row g es s.processor u s q.0 (at_home g es u s h home) q.1 (e ∙ sym q.2)) ∙ q.3

    module _ (v : ℕ) (r : Row) (h : Contains (plan g es) r) (home : Home g es v r.processor) where
      abbrev C : Set
      C = cluster g es v

      here : Contains (home_rows g es r.processor v) r
      here = at_home g es v r h home

      in_cluster : C r.task ≡ true
      in_cluster = (members_in g es v r.task (home_row g es r.processor v r here).of).1

      ready : (m : ℕ) → r.start ≤ m → Ready g es C r m
      ready m l = record {
        free = λ s i e b. omega (
          arith,
          l,
          ended_before g es r.processor v s r
              (subst (λ p. Contains (home_rows g es p v) s) e (at_home g es v s i (subst (Home g es v) (sym e) home))) here b,
        );
        fed = λ a i e f s j t k.
            omega (arith, l, ends_at_home a.first s j t k, input_come g es fw r.processor v r here a i e f);
      }

      soon : (m : ℕ) → Ready g es C r m → r.start ≤ m
      soon m y =
          timed_soon g C (homes g es v) r.processor (Before es) m 0 (members g es v) (members_rise g es v) r here (omega arith)
          (λ s i b. y.free s (from_home g es v r.processor s home i) (home_row g es r.processor v s i).on b)
          (omega (
            arith,
            inputs_fit C (homes g es v) r.task 1 m g.arcs each,
          ))
        where
          each : (a : Arc) → Contains g.arcs a → a.second ≡ r.task → C a.first ≡ false
              → 1 * (get_or (homes g es v) a.first 0 + a.delay) ≤ m
          each a i e f =
              let marked = marked_feeds g es fw v a.first
              (subst (Contains (marks g es)) home.1 (Contains-get_or (marks g es) r.processor 0 home.0))
              (a, i, refl, subst (λ x. C x ≡ true) (sym e) in_cluster, f) in
              let o : Own g es fw bs a.first = own g es fw bs a.first marked in
              omega (arith, homes_at g es v a.first (input_below g es fw r.processor v r here a i e), o.ends, y.fed a i e f o.row o.planned o.of o.home)

pub plan_starts_when_ready_lem : PlanStartsWhenReady
plan_starts_when_ready_lem g es fw bs = record {
  runs = λ v p home u c.
      let r = timed_has g (cluster g es v) (homes g es v) p 0 u (members g es v) (has_members g es v u (cluster_most g es fw v u c) c) in
      (r.0, from_home g es v p r.0 home r.1, (home_row g es p v r.0 r.1).on, r.2);
  homed = λ r h.
      let v : ℕ = host g es r in
      let home = hosted g es r h in
      (v, home, (members_in g es v r.task (home_row g es r.processor v r (at_home g es v r h home)).of).1);
  ordered = λ i j l m. ⊎_elim (λ n. inl n) (λ f. inr (f.0, f.1.1)) (plan_in_turn g es i j l m);
  starts = λ v r h home m. (ready g es fw bs v r h home m, soon g es fw bs v r h home m);
}
