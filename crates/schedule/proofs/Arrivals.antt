-- The front of a set, and the task that growth adds, are what joined best arrivals say.
use Rattle.std.proofs.Common.{◌≡◌, ℕ, ◌<◌, ◌≤◌, true, false, ◌&&◌, eqb, ltb, leb, ◌⊎◌, List, [], ◌∷◌, map, length, get_or, sym, refl, ap, ◌∙◌, subst, inl, inr, ⊎_elim, arith}
use Rattle.std.specs.List.{Contains}
use Rattle.std.proofs.lemmas.List.Elements.{Contains-get_or}
use Rattle.std.proofs.lemmas.Bool.{and_cases, and_from, and_left, and_parts, and_right, cases_Bool, cases_eq, cond_both, cond-false, cond-true, eq-eqb, eqb-false, eqb-true, le-leb, ltb-false, ltb-true, ne_eqb, or_cases, or_parts}
use Rattle.segment_tree.specs.BestArrivals.{best_arrivals, best_read, no_arrival, wins}
use Rattle.segment_tree.specs.Tree.{total}
use Rattle.segment_tree.specs.declared.arrivals.BestArrival.{BestArrival}
use Rattle.schedule.specs.declared.Arc.{Arc}
use Rattle.schedule.specs.Arrivals.{Arrived, FrontsAreJoinedArrivals, arrival_by, arrival_from}
use Rattle.schedule.specs.Graph.{Forward, Graph, tasks}
use Rattle.schedule.specs.Bounds.{Set, arrival, enters, front}
use Rattle.schedule.specs.Growth.{next}
use Rattle.schedule.proofs.Fronts.{Brought, front_high, front_low, next_found, next_low}
use Rattle.schedule.proofs.Lists.{each_more, has_here, has_map, has_there, has_unmap, read_at}

-- t is not below x: its arrival is greater, or it is equal and its task is not higher
abbrev Over : BestArrival → BestArrival → Type 0
Over t x = (x.arrival ≤ t.arrival) × (x.arrival ≡ t.arrival → t.task ≤ x.task)

over_over : (s t x : BestArrival) → Over s t → Over t x → Over s x
over_over s t x p q =
    (omega (arith, p.0, q.0), λ e. omega (arith, p.0, q.0, p.1 (omega (arith, e, p.0, q.0)), q.1 (omega (arith, e, p.0, q.0))))

-- a total is the blank or one of the records, and not below any
record Best (xs : List BestArrival) (t : BestArrival) : Type 0 where
  one : (t ≡ no_arrival) ⊎ Contains xs t
  over : (x : BestArrival) → Contains xs x → Over t x

wins_over : (y x : BestArrival) → wins y x ≡ true → Over y x
wins_over y x e =
    ⊎_elim
    (λ l. let k = ltb-true x.arrival y.arrival l in (omega (arith, k), λ p. absurd (omega (arith, k, p))))
    (λ b. let p = and_parts (eqb x.arrival y.arrival) (ltb y.task x.task) b in
    let q = eqb-true x.arrival y.arrival p.0 in
    let k = ltb-true y.task x.task p.1 in
    (omega (arith, q), λ _. omega (arith, k)))
    (or_cases (ltb x.arrival y.arrival) (eqb x.arrival y.arrival && ltb y.task x.task) e)

loses_under : (y x : BestArrival) → wins y x ≡ false → Over x y
loses_under y x e =
    let p = or_parts (ltb x.arrival y.arrival) (eqb x.arrival y.arrival && ltb y.task x.task) e in
    let l = ltb-false x.arrival y.arrival p.0 in (
      l,
      λ q. ⊎_elim
          (λ n. absurd (eqb-false x.arrival y.arrival n (sym q)))
          (λ n. ltb-false y.task x.task n)
          (and_cases (eqb x.arrival y.arrival) (ltb y.task x.task) p.1),
    )

over_self : (x : BestArrival) → Over x x
over_self x = (omega arith, λ _. omega arith)

total_best : (xs : List BestArrival) → Best xs (total best_arrivals xs)
total_best [] = record { one = inl refl; over = λ x i. absurd (omega (arith, i.1)) }
total_best (x ∷ xs) =
    let b = total_best xs in
    let y : BestArrival = total best_arrivals xs in
    cond_both (wins y x) y x (Best (x ∷ xs))
    (λ e. record {
      one = ⊎_elim (λ n. inl n) (λ h. inr (has_there x y xs h)) b.one;
      over = each_more (Over y) x xs (wins_over y x e) b.over;
    })
    (λ e. record {
      one = inr (has_here x xs);
      over = each_more (Over x) x xs (over_self x) (λ z i. over_over x y z (loses_under y x e) (b.over z i));
    })

module _ (g : Graph) (es : List ℕ) (S : Set) where
  -- an arc that does not enter is blank
  by_out : (u : ℕ) (a : Arc) → enters S a ≡ false → arrival_by g es S u a ≡ no_arrival
  by_out u a f = cond-false _ _ _ (and_right _ (enters S a) f)

  -- an arc from u that enters has these numbers
  by_in : (u : ℕ) (a : Arc) → u ≤ 4_294_967_295 → a.first ≡ u → enters S a ≡ true
      → ((arrival_by g es S u a).arrival ≡ arrival g es a) × ((arrival_by g es S u a).task ≡ u)
  by_in u a l e f =
      let row : BestArrival = best_read (record { arrival = arrival g es a; task = u }) in
      let c = cond-true (eqb a.first u && enters S a) row no_arrival
      (and_from (eqb a.first u) (enters S a) (eq-eqb a.first u e) f) in
      let k = le-leb u 4_294_967_295 l in (
        ap (λ x. x.arrival) c ∙ cond-true (leb u 4_294_967_295) (arrival g es a) 0 k,
        ap (λ x. x.task) c ∙ cond-true (leb u 4_294_967_295) u 4_294_967_295 k,
      )

  -- the arc that brings what is not blank
  record From (u : ℕ) (x : BestArrival) : Type 0 where
    arc : Arc
    has : Contains g.arcs arc
    of : arc.first ≡ u
    into : enters S arc ≡ true
    arrives : x.arrival ≡ arrival g es arc
    named : x.task ≡ u

  by_cases : (u : ℕ) → u ≤ 4_294_967_295 → (a : Arc) → Contains g.arcs a
      → (arrival_by g es S u a ≡ no_arrival) ⊎ From u (arrival_by g es S u a)
  by_cases u l a h =
      ⊎_elim
      (λ e. ⊎_elim
      (λ f. let n = by_in u a l f e in inr (record { arc = a; has = h; of = f; into = e; arrives = n.0; named = n.1 }))
      (λ ne. inl (cond-false _ _ _ (and_left (eqb a.first u) _ (ne_eqb a.first u ne))))
      (cases_eq a.first u))
      (λ e. inl (by_out u a e))
      (cases_Bool (enters S a))

  -- the best arrival from u is blank or brought by an arc from u
  from_cases : (u : ℕ) → u ≤ 4_294_967_295 → (arrival_from g es S u ≡ no_arrival) ⊎ From u (arrival_from g es S u)
  from_cases u l =
      ⊎_elim
      (λ e. inl e)
      (λ h. let r = has_unmap (arrival_by g es S u) g.arcs (arrival_from g es S u) h in
      subst (λ x. (x ≡ no_arrival) ⊎ From u x) r.2 (by_cases u l r.0 r.1))
      (total_best (map (arrival_by g es S u) g.arcs)).one

  -- and not below the arrival of an arc from u that enters
  from_high : (a : Arc) → Contains g.arcs a → enters S a ≡ true → a.first ≤ 4_294_967_295
      → arrival g es a ≤ (arrival_from g es S a.first).arrival
  from_high a h e l =
      let u : ℕ = a.first in
      let t : BestArrival = arrival_from g es S u in
      let o = (total_best (map (arrival_by g es S u) g.arcs)).over (arrival_by g es S u a) (has_map (arrival_by g es S u) g.arcs a h) in
      omega (arith, o.0, (by_in u a l refl e).0)

  module _ (fw : Forward g) (leaves : List BestArrival) (room : tasks g ≤ length leaves) (few : length leaves ≤ 4_294_967_296)
      (each : (u : ℕ) → u < length leaves → get_or leaves u no_arrival ≡ arrival_from g es S u) where
    best : BestArrival
    best = total best_arrivals leaves

    -- the best of all is over the best from each task
    over_each : (u : ℕ) → u < length leaves → Over best (arrival_from g es S u)
    unfolding best
    over_each u l = subst (Over best) (each u l) ((total_best leaves).over (get_or leaves u no_arrival) (Contains-get_or leaves u no_arrival l))

    -- it is blank, or the best from some task
    best_cases : (best ≡ no_arrival) ⊎ ((u : ℕ) × From u best)
    unfolding best
    best_cases =
        ⊎_elim
        (λ e. inl e)
        (λ h. let e = sym (each h.0 h.1) ∙ read_at leaves best no_arrival h in
        ⊎_elim
        (λ n. inl (sym e ∙ n))
        (λ f. inr (h.0, subst (From h.0) e f))
        (from_cases h.0 (omega (arith, h.1, few))))
        (total_best leaves).one

    first_small : (a : Arc) → Contains g.arcs a → a.first < length leaves
    first_small a h = omega (arith, fw a h, room)

    is_front : best.arrival ≡ front g es S
    is_front = omega (arith, high, low)
      where
        high : front g es S ≤ best.arrival
        high =
            front_low g es S best.arrival
            (λ a h e. omega (arith, from_high a h e (omega (arith, first_small a h, few)), (over_each a.first (first_small a h)).0))

        low : best.arrival ≤ front g es S
        low =
            ⊎_elim (λ e. omega (arith, ap (λ x. x.arrival) e))
            (λ f. omega (arith, f.1.arrives, front_high g es S f.1.arc f.1.has f.1.into)) best_cases

    is_next : 0 < front g es S → best.task ≡ next g es S
    is_next l =
        ⊎_elim (λ e. absurd (omega (arith, l, is_front, ap (λ x. x.arrival) e))) (λ f. omega (arith, high, low f.0 f.1)) best_cases
      where
        n : Brought g es S
        n = next_found g es fw S l

        -- the task that growth adds has an arc of that arrival, so the best has no higher task
        high : best.task ≤ next g es S
        high =
            let u : ℕ = n.arc.first in
            let small : u < length leaves = first_small n.arc n.has in
            let o = over_each u small in
            let at = from_high n.arc n.has n.into (omega (arith, small, few)) in
            ⊎_elim
            (λ e. absurd (omega (arith, l, at, n.arrives, ap (λ x. x.arrival) e)))
            (λ f. omega (arith, o.1 (omega (arith, o.0, at, n.arrives, is_front)), f.named, n.is))
            (from_cases u (omega (arith, small, few)))

        -- and no arc of that arrival comes from a lower task
        low : (u : ℕ) → From u best → next g es S ≤ best.task
        low u f = omega (arith, next_low g es S f.arc f.has f.into (omega (arith, f.arrives, is_front)), f.of, f.named)

    arrived : Arrived g es S (total best_arrivals leaves)
    unfolding best
    arrived = record { at_front = is_front; adds = is_next }

pub fronts_are_joined_arrivals_lem : FrontsAreJoinedArrivals
fronts_are_joined_arrivals_lem g es S fw leaves room few each = arrived g es S fw leaves room few each
