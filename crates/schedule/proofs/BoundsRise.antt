-- Along an arc the first task has ended, by its bound and duration, no later than the second's bound.
use Rattle.std.proofs.Common.{◌≡◌, ℕ, ◌+◌, ◌≤◌, true, false, List, subst, subst₂, ⊎_elim, arith}
use Rattle.std.specs.List.{Contains}
use Rattle.std.proofs.lemmas.Bool.{cases_Bool}
use Rattle.schedule.specs.declared.Arc.{Arc}
use Rattle.schedule.specs.Graph.{Ancestor, Forward, Graph, by_arc, duration, through}
use Rattle.schedule.specs.Bounds.{Bounds, Least, Set, bound, order, with}
use Rattle.schedule.proofs.Fronts.{front_high}
use Rattle.schedule.proofs.RunningOrder.{has_order}
use Rattle.schedule.proofs.Runs.{run_member}
use Rattle.schedule.proofs.Sets.{enters_from, with_out, with_self}

module _ (g : Graph) (es : List ℕ) (fw : Forward g) (bs : Bounds g es) where
  -- Take the set that attains the second task's bound. The first task is in it, and ends within its run, or it is not, and the arc
  -- enters.
  pub arc_bound : (a : Arc) → Contains g.arcs a → bound es a.first + duration g a.first ≤ bound es a.second
  arc_bound a h = ⊎_elim inside outside (cases_Bool (K a.first))
    where
      L : Least g es a.second (bound es a.second)
      L = bs.least a.second (fw a h).1

      K : Set
      K = L.attained.0

      inside : K a.first ≡ true → bound es a.first + duration g a.first ≤ bound es a.second
      inside e =
          omega
          (arith, L.attained.2, run_member g es K 0 (order es a.second) a.first (has_order es a.second a.first (fw a h).0) e)

      outside : K a.first ≡ false → bound es a.first + duration g a.first ≤ bound es a.second
      outside e =
          omega (
            arith,
            L.attained.2,
            front_high g es (with K a.second) a h
                (enters_from (with K a.second) a (with_self K a.second)
                (with_out K a.second a.first (λ p. omega (arith, p, fw a h)) e)),
          )

  pub ancestor_bound : {u v : ℕ} → Ancestor g u v → bound es u + duration g u ≤ bound es v
  ancestor_bound (by_arc a h p q) = subst₂ (λ x y. bound es x + duration g x ≤ bound es y) p q (arc_bound a h)
  ancestor_bound {u} (through a h n q) =
      subst (λ y. bound es u + duration g u ≤ bound es y) q (omega (arith, arc_bound a h, ancestor_bound n))
