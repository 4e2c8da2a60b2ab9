-- The run of a set: it grows with the set, it ends no sooner than each member does alone, and no way to run the set on one processor,
-- no task before its bound, ends sooner.
use Rattle.std.proofs.Common.{◌≡◌, ℕ, ◌+◌, ◌<◌, ◌≤◌, max, Bool, true, false, cond, eqb, List, [], ◌∷◌, filter, sym, refl, ap, ◌∙◌, subst, inl, inr, ⊎_elim, arith}
use Rattle.std.specs.List.{AllPairs, Contains, sum_by}
use Rattle.std.proofs.lemmas.List.Sums.{sum_by-cons}
use Rattle.std.proofs.lemmas.List.Kept.{AllPairs-filter}
use Rattle.std.proofs.lemmas.Bool.{cases_eq, cond_both, cond-false, cond-true, eq-eqb, ne_eqb}
use Rattle.std.proofs.lemmas.Map.Made.{Contains-tail}
use Rattle.schedule.specs.Graph.{Graph, duration}
use Rattle.schedule.specs.Bounds.{Set, after, bound, order, run, run_from}
use Rattle.schedule.specs.Laws.{Before, RunIsShortest, Separate, Singly}
use Rattle.schedule.proofs.Lists.{each_more, has_here, has_there, kept_has, pairs_first, pairs_rest, pairs_weaker}
use Rattle.schedule.proofs.Packing.{packed}
use Rattle.schedule.proofs.RunningOrder.{before_other, has_order, order_below, order_rises}
use Rattle.schedule.proofs.Sets.{Within}

module _ (g : Graph) (es : List ℕ) where
  pub after_in : (K : Set) (t u : ℕ) → K u ≡ true → after g es K t u ≡ max t (bound es u) + duration g u
  after_in K t u k = cond-true (K u) (max t (bound es u) + duration g u) t k

  pub after_out : (K : Set) (t u : ℕ) → K u ≡ false → after g es K t u ≡ t
  after_out K t u k = cond-false (K u) (max t (bound es u) + duration g u) t k

  after_low : (K : Set) (t u : ℕ) → t ≤ after g es K t u
  after_low K t u = cond_both (K u) (max t (bound es u) + duration g u) t (λ x. t ≤ x) (λ _. omega arith) (λ _. omega arith)

  pub run_low : (K : Set) (t : ℕ) (us : List ℕ) → t ≤ run_from g es K t us
  run_low K t [] = omega arith
  run_low K t (u ∷ us) = omega (arith, after_low K t u, run_low K (after g es K t u) us)

  after_rises : (K L : Set) → Within K L → (t s u : ℕ) → t ≤ s → after g es K t u ≤ after g es L s u
  after_rises K L w t s u h =
      cond_both (K u) (max t (bound es u) + duration g u) t (λ x. x ≤ after g es L s u)
      (λ e. omega (arith, after_in L s u (w u e)))
      (λ _. omega (arith, after_low L s u))

  pub run_rises : (K L : Set) → Within K L → (t s : ℕ) (us : List ℕ) → t ≤ s → run_from g es K t us ≤ run_from g es L s us
  run_rises K L w t s [] h = h
  run_rises K L w t s (u ∷ us) h = run_rises K L w (after g es K t u) (after g es L s u) us (after_rises K L w t s u h)

  -- When a run starts its task u.
  clock : Set → ℕ → List ℕ → ℕ → ℕ
  clock K t [] u = 0
  clock K t (w ∷ ws) u = cond (eqb w u) (max t (bound es w)) (clock K (after g es K t w) ws u)

  clock_here : (K : Set) (t w : ℕ) (ws : List ℕ) (u : ℕ) → w ≡ u → clock K t (w ∷ ws) u ≡ max t (bound es u)
  unfolding clock
  clock_here K t w ws u e =
      subst (λ x. clock K t (w ∷ ws) u ≡ max t (bound es x)) e
      (cond-true (eqb w u) (max t (bound es w)) (clock K (after g es K t w) ws u) (eq-eqb w u e))

  clock_there : (K : Set) (t w : ℕ) (ws : List ℕ) (u : ℕ) → (w ≡ u → ⊥) → clock K t (w ∷ ws) u ≡ clock K (after g es K t w) ws u
  unfolding clock
  clock_there K t w ws u ne = ap (λ b. cond b (max t (bound es w)) (clock K (after g es K t w) ws u)) (ne_eqb w u ne)

  -- where a run of K starts a member: not before tick t, not before its bound, and it has ended when the run has
  abbrev Runs : Set → ℕ → List ℕ → ℕ → Type 0
  Runs K t us u = (t ≤ clock K t us u) × (bound es u ≤ clock K t us u) × (clock K t us u + duration g u ≤ run_from g es K t us)

  runs : (K : Set) (t : ℕ) (us : List ℕ) (u : ℕ) → Contains us u → K u ≡ true → Runs K t us u
  runs K t [] u h k = absurd (omega (arith, h.1))
  runs K t (w ∷ ws) u h k =
      ⊎_elim
      (λ e. let c = clock_here K t w ws u e in
      let l : after g es K t w ≤ run_from g es K (after g es K t w) ws = run_low K (after g es K t w) ws in
      let a : after g es K t w ≡ max t (bound es u) + duration g u = subst (λ x. after g es K t x ≡ max t (bound es u) + duration g u)
      (sym e) (after_in K t u k) in
      (omega (arith, c), omega (arith, c), omega (arith, c, l, a)))
      (λ ne. let c = clock_there K t w ws u ne in
      let r = runs K (after g es K t w) ws u (Contains-tail w ws u ne h) k in
      (omega (arith, c, r.0, after_low K t w), omega (arith, c, r.1), omega (arith, c, r.2)))
      (cases_eq w u)

  -- a run ends no sooner than each member does alone
  pub run_member : (K : Set) (t : ℕ) (us : List ℕ) (u : ℕ) → Contains us u → K u ≡ true → bound es u + duration g u ≤ run_from g es K t us
  run_member K t us u h k = let r = runs K t us u h k in omega (arith, r.1, r.2)

  clocks_apart : (K : Set) (t : ℕ) (us : List ℕ) (x y : ℕ) → Contains us x → Contains us y → K x ≡ true → K y ≡ true → (x ≡ y → ⊥)
      → Separate (clock K t us) (duration g) x y
  clocks_apart K t [] x y i j k l ne = absurd (omega (arith, i.1))
  clocks_apart K t (w ∷ ws) x y i j k l ne =
      ⊎_elim
      (λ e. inl (first x y k e (λ f. ne (sym e ∙ f)) (Contains-tail w ws y (λ f. ne (sym e ∙ f)) j) l))
      (λ nx. ⊎_elim
      (λ e. inr (first y x l e nx (Contains-tail w ws x nx i) k))
      (λ ny. let r = clocks_apart K (after g es K t w) ws x y (Contains-tail w ws x nx i) (Contains-tail w ws y ny j) k l ne in
      let p = clock_there K t w ws x nx in
      let q = clock_there K t w ws y ny in
      ⊎_elim (λ h. inl (omega (arith, p, q, h))) (λ h. inr (omega (arith, p, q, h))) r)
      (cases_eq w y))
      (cases_eq w x)
    where
      first : (x y : ℕ) → K x ≡ true → w ≡ x → (w ≡ y → ⊥) → Contains ws y → K y ≡ true
          → clock K t (w ∷ ws) x + duration g x ≤ clock K t (w ∷ ws) y
      first x y k e ny m l =
          let a : after g es K t w ≡ max t (bound es x) + duration g x = subst (λ z. after g es K t z ≡ max t (bound es x) + duration g x)
          (sym e) (after_in K t x k) in
          omega (arith, clock_here K t w ws x e, clock_there K t w ws y ny, a, (runs K (after g es K t w) ws y m l).0)

  -- the end of running all of ts, in their order, from tick t on
  abbrev run_all : ℕ → List ℕ → ℕ
  run_all t [] = t
  run_all t (u ∷ us) = run_all (max t (bound es u) + duration g u) us

  run_kept : (K : Set) (t : ℕ) (ts : List ℕ) → run_from g es K t ts ≡ run_all t (filter K ts)
  run_kept K t [] = refl
  run_kept K t (u ∷ us) = go (K u) (λ t. run_kept K t us)
    where
      go : (b : Bool) → ((t : ℕ) → run_from g es K t us ≡ run_all t (filter K us))
          → run_from g es K (cond b (max t (bound es u) + duration g u) t) us ≡ run_all t (cond b (u ∷ filter K us) (filter K us))
      go true r = r (max t (bound es u) + duration g u)
      go false r = r t

  -- the tasks from each one on, run without a gap from its bound, have run by s
  abbrev Fits : ℕ → List ℕ → Type 0
  Fits s [] = Unit {0}
  Fits s (u ∷ us) = (bound es u + sum_by (duration g) (u ∷ us) ≤ s) × Fits s us

  run_all_by : (s t : ℕ) (ts : List ℕ) → t + sum_by (duration g) ts ≤ s → Fits s ts → run_all t ts ≤ s
  run_all_by s t [] l h = omega arith
  run_all_by s t (u ∷ us) l h =
      run_all_by s (max t (bound es u) + duration g u) us (omega (arith, l, h.0, sum_by-cons (duration g) u us)) h.1

  -- runs of ts, in running order, that start no earlier than the bounds, end by s and are apart
  record Kept (start : ℕ → ℕ) (s : ℕ) (ts : List ℕ) : Type 0 where
    rise : AllPairs (Before es) ts
    from : (z : ℕ) → Contains ts z → bound es z ≤ start z
    to : (z : ℕ) → Contains ts z → start z + duration g z ≤ s
    apart : AllPairs (Separate start (duration g)) ts

  kept_rest : (start : ℕ → ℕ) (s u : ℕ) (us : List ℕ) → Kept start s (u ∷ us) → Kept start s us
  kept_rest start s u us h = record {
    rise = pairs_rest (Before es) u us h.rise;
    from = λ z i. h.from z (has_there u z us i);
    to = λ z i. h.to z (has_there u z us i);
    apart = pairs_rest (Separate start (duration g)) u us h.apart;
  }

  -- they leave room for them all from each one's bound on
  fits_from : (start : ℕ → ℕ) (s : ℕ) (ts : List ℕ) → Kept start s ts → Fits s ts
  fits_from start s [] h = tt
  fits_from start s (u ∷ us) h = (
    packed start (duration g) (bound es u) s (u ∷ us) (omega (arith, first, h.to u (has_here u us))) late h.to h.apart,
    fits_from start s us (kept_rest start s u us h),
  )
    where
      first : bound es u ≤ start u
      first = h.from u (has_here u us)

      late : (z : ℕ) → Contains (u ∷ us) z → bound es u ≤ start z
      late =
          each_more (λ z. bound es u ≤ start z) u us first
          (λ z i. omega (arith, pairs_first (Before es) u us h.rise z i, h.from z (has_there u z us i)))

  -- so running ts in their order, each as early as possible, ends by s
  run_all_within : (start : ℕ → ℕ) (s : ℕ) (ts : List ℕ) → Kept start s ts → run_all 0 ts ≤ s
  run_all_within start s ts h =
      run_all_by s 0 ts (packed start (duration g) 0 s ts (omega arith) (λ z i. omega arith) h.to h.apart) (fits_from start s ts h)

  pub run_within : (n : ℕ) (K : Set) (start : ℕ → ℕ) (s : ℕ) → Singly g es n K start s → run g es n K ≤ s
  run_within n K start s h =
      subst (λ e. e ≤ s) (sym (run_kept K 0 (order es n))) (run_all_within start s ts (record {
        rise = rise;
        from = λ z i. h.from z (inside z i).0 (inside z i).1;
        to = λ z i. h.to z (inside z i).0 (inside z i).1;
        apart = pairs_weaker (Before es) (Separate start (duration g)) ts
            (λ x y i j b. h.apart x y (inside x i).0 (inside y j).0 (inside x i).1 (inside y j).1 (before_other es x y b)) rise;
      }))
    where
      ts : List ℕ
      ts = filter K (order es n)

      inside : (z : ℕ) → Contains ts z → (z < n) × (K z ≡ true)
      inside z i = let k = kept_has K z (order es n) i in (order_below es n z k.1, k.0)

      rise : AllPairs (Before es) ts
      rise = AllPairs-filter (Before es) K (order es n) (order_rises es n)

pub run_is_shortest_lem : RunIsShortest
run_is_shortest_lem g es n K = (
  (
    clock g es K 0 (order es n),
    record {
      from = λ u l k. (runs g es K 0 (order es n) u (has_order es n u l) k).1;
      to = λ u l k. (runs g es K 0 (order es n) u (has_order es n u l) k).2;
      apart = λ u w l m k j ne. clocks_apart g es K 0 (order es n) u w (has_order es n u l) (has_order es n w m) k j ne;
    },
  ),
  λ start s h. run_within g es n K start s h,
)
