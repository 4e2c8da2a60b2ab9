-- Growth attains the least reach over all sets of ancestors, and ends within as many turns as there are tasks below.
use Rattle.std.proofs.Common.{◌≡◌, ℕ, zero, suc, ◌<◌, ◌≤◌, true, false, ◌⊎◌, List, sym, refl, ap, ◌∙◌, subst, inl, inr, ⊎_elim, add-one, arith}
use Rattle.std.proofs.lemmas.Bool.{both_ways, cases_Bool, cases_eq, cases_lt, cond-false, cond-true, false_from_ne_true, false≢true, le-ltb, lt-ltb, ltb-false, ltb-true, true_from_ne_false}
use Rattle.schedule.specs.Graph.{Ancestor, Forward, Graph, by_arc}
use Rattle.schedule.specs.Bounds.{Ancestors, Least, Set, front, order, reach, run, with}
use Rattle.schedule.specs.Growth.{found_bound, goes_on, grown, least_reach, next, none, turn}
use Rattle.schedule.specs.Laws.{Adds, GrowthAddsTheLowest}
use Rattle.schedule.proofs.Ancestry.{ancestor_before, ancestor_below}
use Rattle.schedule.proofs.Fronts.{Brought, front_high, next_found, next_low}
use Rattle.schedule.proofs.Runs.{run_rises}
use Rattle.schedule.proofs.Sets.{Within, enters_from, enters_parts, tally, tally_most, tally_none, tally-with, with_cases, with_false, with_out, with_rises}

module _ (g : Graph) (es : List ℕ) (v : ℕ) where
  -- growth goes on with K
  abbrev pub Open : Set → Type 0
  Open K = goes_on g es v K ≡ true

  -- growth ends with K
  abbrev pub Shut : Set → Type 0
  Shut K = goes_on g es v K ≡ false

  pub open_less : (K : Set) → Open K → run g es v K < front g es (with K v)
  open_less K o = ltb-true (run g es v K) (front g es (with K v)) o

  pub shut_most : (K : Set) → Shut K → front g es (with K v) ≤ run g es v K
  shut_most K s = ltb-false (run g es v K) (front g es (with K v)) s

  -- the task that growth adds to K
  abbrev pub added : Set → ℕ
  added K = next g es (with K v)

  pub turn_open : (K : Set) → Open K → turn g es v K ≡ with K (added K)
  turn_open K o = cond-true (goes_on g es v K) (with K (added K)) K o

  pub turn_shut : (K : Set) → Shut K → turn g es v K ≡ K
  turn_shut K s = cond-false (goes_on g es v K) (with K (added K)) K s

  turn_cases : (K : Set) (u : ℕ) → turn g es v K u ≡ true → (K u ≡ true) ⊎ (Open K × (u ≡ added K))
  turn_cases K u e =
      ⊎_elim
      (λ o. ⊎_elim (λ p. inr (o, p)) (λ k. inl k) (with_cases K (added K) u (sym (ap (λ S. S u) (turn_open K o)) ∙ e)))
      (λ s. inl (sym (ap (λ S. S u) (turn_shut K s)) ∙ e))
      (cases_Bool (goes_on g es v K))

  -- once growth has ended its set stays
  pub shut_stays : (k : ℕ) → Shut (grown g es v k) → Shut (grown g es v (suc k))
  shut_stays k s = ap (goes_on g es v) (turn_shut (grown g es v k) s) ∙ s

  open_before : (k : ℕ) → Open (grown g es v (suc k)) → Open (grown g es v k)
  open_before k o =
      true_from_ne_false (goes_on g es v (grown g es v k)) (λ s. both_ways (goes_on g es v (grown g es v (suc k))) (shut_stays k s) o)

  -- the least reach of the turns up to k is attained by one of them, and none is below it
  pub least_attained : (k : ℕ) → (j : ℕ) × (j ≤ k) × (reach g es v (grown g es v j) ≡ least_reach g es v k)
  least_attained zero = (0, omega arith, refl)
  least_attained (suc k) =
      let a = least_attained k in
      ⊎_elim
      (λ l. (suc k, omega arith, omega (arith, l)))
      (λ l. (a.0, omega (arith, a.1), omega (arith, l, a.2)))
      (cases_lt (reach g es v (grown g es v (suc k))) (least_reach g es v k))

  pub least_below : (k j : ℕ) → j ≤ k → least_reach g es v k ≤ reach g es v (grown g es v j)
  least_below zero j l = subst (λ x. reach g es v none ≤ reach g es v (grown g es v x)) {x = 0} {y = j} (omega arith) (omega arith)
  least_below (suc k) j l =
      ⊎_elim
      (λ e. subst (λ x. least_reach g es v (suc k) ≤ reach g es v (grown g es v x)) (sym e) (omega arith))
      (λ ne. let h = least_below k j (omega (arith, l, ne)) in omega (arith, h))
      (cases_eq j (suc k))

  module _ (fw : Forward g) where
    -- the arc that brings a task into K with v, while growth goes on
    pub brought : (K : Set) → Open K → Brought g es (with K v)
    brought K o = next_found g es fw (with K v) (omega (arith, open_less K o))

    -- the added task was not there
    fresh : (K : Set) → Open K → (added K ≡ v → ⊥) × (K (added K) ≡ false)
    fresh K o =
        let b = brought K o in
        with_false K v (added K) (subst (λ x. with K v x ≡ false) b.is (enters_parts (with K v) b.arc b.into).1)

    -- it is an ancestor of v, if the tasks of K are
    added_ancestor : (K : Set) → Ancestors g v K → Open K → Ancestor g (added K) v
    added_ancestor K anc o =
        let b = brought K o in
        subst (λ x. Ancestor g x v) b.is
        (⊎_elim
        (λ e. by_arc b.arc b.has refl e)
        (λ e. ancestor_before g b.arc b.has refl (anc b.arc.second e))
        (with_cases K v b.arc.second (enters_parts (with K v) b.arc b.into).0))

    -- growth adds ancestors of v alone
    pub grown_ancestors : (k : ℕ) → Ancestors g v (grown g es v k)
    grown_ancestors zero u e = absurd (false≢true e)
    grown_ancestors (suc k) u e =
        ⊎_elim
        (λ h. grown_ancestors k u h)
        (λ p. subst (λ x. Ancestor g x v) (sym p.1) (added_ancestor (grown g es v k) (grown_ancestors k) p.0))
        (turn_cases (grown g es v k) u e)

    -- a turn that goes on makes the set greater by one task below v
    tally_open : (k : ℕ) → Open (grown g es v k) → tally (grown g es v (suc k)) v ≡ suc (tally (grown g es v k) v)
    tally_open k o =
        ap (λ S. tally S v) (turn_open (grown g es v k) o)
        ∙ tally-with (grown g es v k) (added (grown g es v k)) v
        (ancestor_below g fw (added_ancestor (grown g es v k) (grown_ancestors k) o)) (fresh (grown g es v k) o).1

    pub grown_many : (k : ℕ) → Open (grown g es v k) → tally (grown g es v k) v ≡ k
    grown_many zero o = tally_none v
    grown_many (suc k) o = let p = open_before k o in omega (arith, tally_open k p, grown_many k p)

    -- so fewer than v turns go on
    pub open_few : (k : ℕ) → Open (grown g es v k) → k < v
    open_few k o = omega (arith, tally_most (grown g es v (suc k)) v, tally_open k o, grown_many k o)

    pub growth_ends : Shut (grown g es v v)
    growth_ends = false_from_ne_true (goes_on g es v (grown g es v v)) (λ o. omega (arith, open_few v o))

    -- a set that leaves out what growth adds at a turn has no lesser reach than growth's set of that turn
    left_out : (K L : Set) → Open K → Within K L → L (added K) ≡ false → reach g es v K ≤ reach g es v L
    left_out K L o w e =
        omega (
          arith,
          open_less K o,
          b.arrives,
          front_high g es (with L v) b.arc b.has
              (enters_from (with L v) b.arc
              (with_rises K L v w b.arc.second (enters_parts (with K v) b.arc b.into).0)
              (with_out L v b.arc.first (λ p. (fresh K o).0 (sym b.is ∙ p)) (subst (λ x. L x ≡ false) (sym b.is) e))),
        )
      where
        b : Brought g es (with K v)
        b = brought K o

    -- a set of lesser reach than growth's sets so far contains them all
    pub lesser_contains : (k : ℕ) (L : Set) → Within (grown g es v k) L ⊎ (least_reach g es v k ≤ reach g es v L)
    lesser_contains zero L = inl (λ u e. absurd (false≢true e))
    lesser_contains (suc k) L =
        ⊎_elim
        (λ w. ⊎_elim
        (λ o. ⊎_elim (λ e. inl (wider w e)) (λ e. inr (omega (arith, left_out K L o w e, least_below k k (omega arith))))
        (cases_Bool (L (added K))))
        (λ s. inl (λ u e. w u (sym (ap (λ S. S u) (turn_shut K s)) ∙ e)))
        (cases_Bool (goes_on g es v K)))
        (λ l. inr (omega (arith, l)))
        (lesser_contains k L)
      where
        K : Set
        K = grown g es v k

        wider : Within K L → L (added K) ≡ true → Within (turn g es v K) L
        wider w e u f = ⊎_elim (λ h. w u h) (λ p. subst (λ x. L x ≡ true) (sym p.1) e) (turn_cases K u f)

    -- where growth has ended, the least reach of its sets is the least over all sets of ancestors
    pub least_when_shut : (k : ℕ) → Shut (grown g es v k) → Least g es v (least_reach g es v k)
    least_when_shut k s = record {
      below = λ L anc.
          ⊎_elim
          (λ w. omega (
            arith,
            shut_most (grown g es v k) s,
            least_below k k (omega arith),
            run_rises g es (grown g es v k) L w 0 0
                (order es v) (omega arith),
          ))
          (λ l. l)
          (lesser_contains k L);
      attained = let a = least_attained k in (grown g es v a.0, grown_ancestors a.0, a.2);
    }

    pub growth_least : Least g es v (found_bound g es v)
    growth_least = least_when_shut v growth_ends

  pub least_one : (b c : ℕ) → Least g es v b → Least g es v c → b ≡ c
  least_one b c l k =
      let x = l.below k.attained.0 k.attained.1 in
      let y = k.below l.attained.0 l.attained.1 in
      omega (arith, x, y, l.attained.2, k.attained.2)

pub growth_adds_the_lowest_lem : GrowthAddsTheLowest
growth_adds_the_lowest_lem g es v fw = record {
  starts = λ u. refl;
  goes_on = λ k l. rw (add-one k) (adds (grown g es v k) (lt-ltb (run g es v (grown g es v k)) (front g es (with (grown g es v k) v)) l));
  ends = λ k l. rw (add-one k)
      (turn_shut g es v (grown g es v k) (le-ltb (run g es v (grown g es v k)) (front g es (with (grown g es v k) v)) l));
}
  where
    adds : (K : Set) → Open g es v K → Adds g es v K (turn g es v K)
    adds K o =
        let b : Brought g es (with K v) = brought g es v fw K o in
        record {
          task = added g es v K;
          adds = turn_open g es v K o;
          brings = (b.arc, b.has, b.is, b.into, b.arrives);
          lowest = next_low g es (with K v);
        }
