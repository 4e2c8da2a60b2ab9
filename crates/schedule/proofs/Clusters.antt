-- The cluster of a task: the task itself, and ancestors whose reach is the task's bound. The task runs last in it.
use Rattle.std.proofs.Common.{◌≡◌, ℕ, zero, suc, ◌+◌, ◌<◌, ◌≤◌, true, false, ◌||◌, eqb, ◌⊎◌, List, [], ◌∷◌, ◌++◌, filter, sym, refl, ap, ◌∙◌, subst, inl, inr, ⊎_elim, arith}
use Rattle.std.specs.List.{AllPairs, Contains}
use Rattle.std.proofs.lemmas.Bool.{cases_Bool, cases_eq, cond_both, cond-false, cond-true, eq-eqb, false_from_ne_true, ltb-true, ne_eqb}
use Rattle.schedule.specs.declared.Arc.{Arc}
use Rattle.schedule.specs.Graph.{Ancestor, Forward, Graph, tasks}
use Rattle.schedule.specs.Bounds.{Ancestors, Bounds, Set, arrival, bound, order, placed, reach, run, sooner, with}
use Rattle.schedule.specs.Growth.{cluster, earliest_set, grown, least_reach}
use Rattle.schedule.specs.Laws.{Before}
use Rattle.schedule.specs.Plan.{members}
use Rattle.schedule.specs.Theorems.{GrowthAttainsTheLeast}
use Rattle.schedule.proofs.Ancestry.{ancestor_below}
use Rattle.schedule.proofs.BoundsRise.{ancestor_bound}
use Rattle.schedule.proofs.Fronts.{front_high}
use Rattle.schedule.proofs.GrowthTurns.{grown_ancestors, growth_ends, growth_least, least_attained, least_one, shut_most}
use Rattle.schedule.proofs.Lists.{each_more, has_here, has_there, pairs_first, pairs_rest}
use Rattle.schedule.proofs.RunningOrder.{order_below, order_rises}
use Rattle.schedule.proofs.Sets.{enters_from, with_cases, with_self}

module _ (g : Graph) (es : List ℕ) (v : ℕ) where
  -- growth's set of turn k attains the bound
  abbrev pub Attains : ℕ → Type 0
  Attains k = reach g es v (grown g es v k) ≡ bound es v

  -- the earliest turn, from k on, that attains the bound gives the earliest set
  pub earliest_set_is : (n k i : ℕ) → k ≤ i → i ≤ n + k → Attains i → ((j : ℕ) → k ≤ j → j < i → Attains j → ⊥)
      → earliest_set g es v n k ≡ grown g es v i
  earliest_set_is zero k i l h a before = ap (grown g es v) {x = k} {y = i} (omega arith)
  earliest_set_is (suc n) k i l h a before =
      ⊎_elim
      (λ p. cond-true (eqb (reach g es v (grown g es v k)) (bound es v)) (grown g es v k) (earliest_set g es v n (suc k))
      (eq-eqb (reach g es v (grown g es v k)) (bound es v) (subst Attains p a)) ∙ ap (grown g es v) (sym p))
      (λ ne. cond-false (eqb (reach g es v (grown g es v k)) (bound es v)) (grown g es v k) (earliest_set g es v n (suc k))
      (ne_eqb (reach g es v (grown g es v k)) (bound es v) (before k (omega arith) (omega (arith, l, ne)))) ∙ earliest_set_is n (suc k) i
      (omega (arith, l, ne)) (omega (arith, h)) a (λ j m. before j (omega (arith, m))))
      (cases_eq i k)

  -- where a turn attains the bound, there is an earliest
  pub earliest_turn : (n k j : ℕ) → k ≤ j → j ≤ n + k → Attains j
      → (i : ℕ) × (k ≤ i) × (i ≤ j) × Attains i × ((h : ℕ) → k ≤ h → h < i → Attains h → ⊥)
  earliest_turn zero k j l h a = (j, l, omega arith, a, λ i m o. absurd (omega (arith, l, h, m, o)))
  earliest_turn (suc n) k j l h a =
      ⊎_elim
      (λ p. (k, omega arith, l, p, λ i m o. absurd (omega (arith, m, o))))
      (λ np. let r = earliest_turn n (suc k) j (⊎_elim (λ e. absurd (np (subst Attains e a))) (λ ne. omega (arith, l, ne)) (cases_eq j k))
      (omega (arith, h)) a in (
        r.0,
        omega (arith, r.1),
        r.2,
        r.3,
        λ i m o b. ⊎_elim (λ e. np (subst Attains e b)) (λ ne. r.4 i (omega (arith, m, ne)) o b)
            (cases_eq i k),
      ))
      (cases_eq (reach g es v (grown g es v k)) (bound es v))

-- the tasks of the cluster of v but v
abbrev pub others : Graph → List ℕ → ℕ → Set
others g es v = earliest_set g es v v 0

module _ (g : Graph) (es : List ℕ) (fw : Forward g) (bs : Bounds g es) (v : ℕ) (small : v < tasks g) where
  -- the earliest turn whose set attains the bound
  pub record Chosen : Type 0 where
    pub turns : ℕ
    pub few : turns ≤ v
    pub is : others g es v ≡ grown g es v turns
    pub attains : reach g es v (grown g es v turns) ≡ bound es v
    pub earliest : (k : ℕ) → k < turns → reach g es v (grown g es v k) ≡ bound es v → ⊥

  pub chosen : Chosen
  chosen = record {
    turns = e.0;
    few = omega (arith, e.2, a.1);
    is = earliest_set_is g es v v 0 e.0 e.1 (omega (arith, e.2, a.1)) e.3 e.4;
    attains = e.3;
    earliest = λ k l. e.4 k (omega arith) l;
  }
    where
      a : (j : ℕ) × (j ≤ v) × (reach g es v (grown g es v j) ≡ least_reach g es v v)
      a = least_attained g es v v

      same : least_reach g es v v ≡ bound es v
      same = least_one g es v (least_reach g es v v) (bound es v) (growth_least g es v fw) (bs.least v small)

      e : (i : ℕ) × (0 ≤ i) × (i ≤ a.0) × Attains g es v i × ((h : ℕ) → 0 ≤ h → h < i → Attains g es v h → ⊥)
      e = earliest_turn g es v v 0 a.0 (omega arith) (omega (arith, a.1)) (a.2 ∙ same)

  -- the cluster is v and that set
  cluster_is : cluster g es v ≡ with (grown g es v chosen.turns) v
  cluster_is = ap (λ K. with K v) chosen.is

  others_reach : reach g es v (others g es v) ≡ bound es v
  others_reach = ap (reach g es v) chosen.is ∙ chosen.attains

  pub run_fits : run g es v (others g es v) ≤ bound es v
  run_fits = omega (arith, others_reach)

-- whatever the bounds are, the earliest set is a set of growth
earliest_set-grown : (g : Graph) (es : List ℕ) (v n k : ℕ) → (i : ℕ) × (earliest_set g es v n k ≡ grown g es v i)
earliest_set-grown g es v zero k = (k, refl)
earliest_set-grown g es v (suc n) k =
    cond_both (eqb (reach g es v (grown g es v k)) (bound es v)) (grown g es v k) (earliest_set g es v n (suc k))
    (λ S. (i : ℕ) × (S ≡ grown g es v i))
    (λ _. (k, refl))
    (λ _. earliest_set-grown g es v n (suc k))

module _ (g : Graph) (es : List ℕ) (fw : Forward g) (v : ℕ) where
  pub others_ancestors : Ancestors g v (others g es v)
  others_ancestors u e = let s = earliest_set-grown g es v v 0 in grown_ancestors g es v fw s.0 u (sym (ap (λ S. S u) s.1) ∙ e)

  pub cluster_cases : (u : ℕ) → cluster g es v u ≡ true → (u ≡ v) ⊎ Ancestor g u v
  cluster_cases u e = ⊎_elim (λ p. inl p) (λ k. inr (others_ancestors u k)) (with_cases (others g es v) v u e)

  pub cluster_most : (u : ℕ) → cluster g es v u ≡ true → u ≤ v
  cluster_most u e = ⊎_elim (λ p. omega (arith, p)) (λ a. omega (arith, ancestor_below g fw a)) (cluster_cases u e)

kept_none : (C : Set) (us : List ℕ) → ((u : ℕ) → Contains us u → C u ≡ false) → filter C us ≡ []
kept_none C [] h = refl
kept_none C (u ∷ us) h =
    cond-false (C u) (u ∷ filter C us) (filter C us) (h u (has_here u us)) ∙ kept_none C us (λ w i. h w (has_there u w us i))

-- if C is K and v, and no task of K has a higher bound than v, then C runs K in order and then v
kept_placed : (es : List ℕ) (C K : Set) (v : ℕ) (us : List ℕ) → C v ≡ true
    → ((u : ℕ) → Contains us u → (C u ≡ K u) × (K u ≡ true → bound es u ≤ bound es v)) → AllPairs (Before es) us
    → filter C (placed es v us) ≡ filter K us ++ v ∷ []
kept_placed es C K v [] c h s = cond-true (C v) (v ∷ []) [] c
kept_placed es C K v (u ∷ us) c h s =
    cond_both (sooner es v u) (v ∷ u ∷ us) (u ∷ placed es v us) (λ l. filter C l ≡ filter K (u ∷ us) ++ v ∷ [])
    (λ e.
    cond-true (C v) (v ∷ filter C (u ∷ us)) (filter C (u ∷ us)) c
    ∙ ap (λ l. v ∷ l) (kept_none C (u ∷ us) (λ x i. (h x i).0 ∙ late e x i))
    ∙ ap (λ l. l ++ v ∷ []) (sym (kept_none K (u ∷ us) (late e))))
    (λ e.
    let rest = kept_placed es C K v us c (λ w i. h w (has_there u w us i)) (pairs_rest (Before es) u us s) in
    ⊎_elim
    (λ k. cond-true (C u) (u ∷ filter C (placed es v us)) (filter C (placed es v us)) ((h u (has_here u us)).0 ∙ k)
    ∙ ap (λ l. u ∷ l) rest ∙ ap (λ l. l ++ v ∷ [])
    (sym (cond-true (K u) (u ∷ filter K us) (filter K us) k)))
    (λ k. cond-false (C u) (u ∷ filter C (placed es v us)) (filter C (placed es v us)) ((h u (has_here u us)).0 ∙ k)
    ∙ rest ∙ ap (λ l. l ++ v ∷ []) (sym (cond-false (K u) (u ∷ filter K us) (filter K us) k)))
    (cases_Bool (K u)))
  where
    later : sooner es v u ≡ true → (x : ℕ) → Contains (u ∷ us) x → bound es v < bound es x
    later e =
        let k = ltb-true (bound es v) (bound es u) e in
        each_more (λ x. bound es v < bound es x) u us k (λ x j. omega (arith, k, pairs_first (Before es) u us s x j))

    late : sooner es v u ≡ true → (x : ℕ) → Contains (u ∷ us) x → K x ≡ false
    late e x i = false_from_ne_true (K x) (λ k. omega (arith, later e x i, (h x i).1 k))

module _ (g : Graph) (es : List ℕ) (fw : Forward g) (bs : Bounds g es) (v : ℕ) (small : v < tasks g) where
  pub arrival_fits : (a : Arc) → Contains g.arcs a → cluster g es v a.second ≡ true → cluster g es v a.first ≡ false
      → arrival g es a ≤ bound es v
  arrival_fits a h e f = omega (arith, others_reach g es fw bs v small, front_high g es (cluster g es v) a h (enters_from (cluster g es v) a e f))

  -- the cluster runs its other tasks in order, and then v
  pub members_are : members g es v ≡ filter (others g es v) (order es v) ++ v ∷ []
  members_are =
      kept_placed es (cluster g es v) (others g es v) v (order es v) (with_self (others g es v) v)
      (λ u i. each u (order_below es v u i))
      (order_rises es v)
    where
      each : (u : ℕ) → u < v → (cluster g es v u ≡ others g es v u) × (others g es v u ≡ true → bound es u ≤ bound es v)
      each u l = (
        ap (λ b. b || others g es v u) (ne_eqb u v (λ p. omega (arith, p, l))),
        λ k. omega (arith, ancestor_bound g es fw bs (others_ancestors g es fw v u k)),
      )

pub growth_attains_the_least_lem : GrowthAttainsTheLeast
growth_attains_the_least_lem g es fw = (
  λ v. record {
    ancestors = grown_ancestors g es v fw;
    ended = shut_most g es v (grown g es v v) (growth_ends g es v fw);
    least = growth_least g es v fw;
  },
  λ bs v small.
      let c : Chosen g es fw bs v small = chosen g es fw bs v small in
      let least : (k : ℕ) → bound es v ≤ reach g es v (grown g es v k) = λ k. (bs.least v small).below (grown g es v k)
      (grown_ancestors g es v fw k) in
      record {
        turns = c.turns;
        is = cluster_is g es fw bs v small;
        attains = c.attains;
        earliest = λ k l. ⊎_elim (λ e. absurd (c.earliest k l e)) (λ ne. omega (arith, least k, ne))
            (cases_eq (reach g es v (grown g es v k)) (bound es v));
        least = least;
      },
)
