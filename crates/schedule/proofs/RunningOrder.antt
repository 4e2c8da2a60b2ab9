-- The running order has each task below n, and rises by bound, then number.
use Rattle.std.proofs.Common.{◌≡◌, ℕ, zero, suc, ◌<◌, ◌≤◌, ◌⊎◌, List, [], ◌∷◌, length, refl, ap, subst, inl, inr, ⊎_elim, arith, below_more}
use Rattle.std.specs.List.{AllPairs, Contains}
use Rattle.std.proofs.lemmas.Bool.{cases_eq, cond_both, ltb-false, ltb-true}
use Rattle.schedule.specs.Bounds.{bound, order, placed, sooner}
use Rattle.schedule.specs.Laws.{Before, OrderIsSorted}
use Rattle.schedule.proofs.Lists.{has_cases, has_here, has_there, pairs_first, pairs_more, pairs_rest, pairs_short}

pub before_other : (es : List ℕ) (u w : ℕ) → Before es u w → u ≡ w → ⊥
before_other es u w b e = ⊎_elim (λ l. omega (arith, l, ap (bound es) e)) (λ l. omega (arith, l, e)) b

pub before_one_way : (es : List ℕ) (u w : ℕ) → Before es u w → Before es w u → ⊥
before_one_way es u w b c = omega (arith, b, c)

module _ (es : List ℕ) where
  has_placed : (t x : ℕ) (us : List ℕ) → Contains (t ∷ us) x → Contains (placed es t us) x
  has_placed t x [] h = h
  has_placed t x (u ∷ us) h =
      cond_both (sooner es t u) (t ∷ u ∷ us) (u ∷ placed es t us) (λ l. Contains l x)
      (λ _. h)
      (λ _. ⊎_elim
      (λ e. has_there u x (placed es t us) (has_placed t x us (subst (Contains (t ∷ us)) e (has_here t us))))
      (λ k. ⊎_elim
      (λ e. subst (Contains (u ∷ placed es t us)) e (has_here u (placed es t us)))
      (λ m. has_there u x (placed es t us) (has_placed t x us (has_there t x us m)))
      (has_cases u x us k))
      (has_cases t x (u ∷ us) h))

  placed_cases : (t x : ℕ) (us : List ℕ) → Contains (placed es t us) x → (t ≡ x) ⊎ Contains us x
  placed_cases t x [] = has_cases t x []
  placed_cases t x (u ∷ us) =
      cond_both (sooner es t u) (t ∷ u ∷ us) (u ∷ placed es t us) (λ l. Contains l x → (t ≡ x) ⊎ Contains (u ∷ us) x)
      (λ _. has_cases t x (u ∷ us))
      (λ _ h. ⊎_elim
      (λ e. inr (subst (Contains (u ∷ us)) e (has_here u us)))
      (λ k. ⊎_elim (λ e. inl e) (λ m. inr (has_there u x us m)) (placed_cases t x us k))
      (has_cases u x (placed es t us) h))

  pub order_below : (n x : ℕ) → Contains (order es n) x → x < n
  order_below zero x h = omega (arith, h.1)
  order_below (suc n) x h =
      ⊎_elim (λ e. omega (arith, e)) (λ k. omega (arith, order_below n x k)) (placed_cases n x (order es n) h)

  pub has_order : (n x : ℕ) → x < n → Contains (order es n) x
  has_order zero x h = absurd (omega arith)
  has_order (suc n) x h =
      has_placed n x (order es n)
      (below_more (Contains (n ∷ order es n)) n (λ w l. has_there n w (order es n) (has_order n w l)) (has_here n (order es n)) x
      (omega (arith, h)))

  pairs_placed : (t : ℕ) (us : List ℕ) → ((u : ℕ) → Contains us u → u < t) → AllPairs (Before es) us → AllPairs (Before es) (placed es t us)
  pairs_placed t [] l h = pairs_short (Before es) (t ∷ []) (omega arith)
  pairs_placed t (u ∷ us) l h =
      cond_both (sooner es t u) (t ∷ u ∷ us) (u ∷ placed es t us) (AllPairs (Before es))
      (λ e. pairs_more (Before es) t (u ∷ us) (first (ltb-true (bound es t) (bound es u) e)) h)
      (λ e. pairs_more (Before es) u (placed es t us) (later (ltb-false (bound es t) (bound es u) e))
      (pairs_placed t us (λ x i. l x (has_there u x us i)) (pairs_rest (Before es) u us h)))
    where
      first : bound es t < bound es u → (x : ℕ) → Contains (u ∷ us) x → Before es t x
      first k x i =
          ⊎_elim
          (λ e. inl (subst (λ y. bound es t < bound es y) e k))
          (λ j. inl (omega (arith, k, pairs_first (Before es) u us h x j)))
          (has_cases u x us i)

      later : bound es u ≤ bound es t → (x : ℕ) → Contains (placed es t us) x → Before es u x
      later k x i =
          ⊎_elim
          (λ e. subst (Before es u) e
          (⊎_elim (λ f. inr (f, l u (has_here u us))) (λ ne. inl (omega (arith, k, ne))) (cases_eq (bound es u) (bound es t))))
          (λ j. pairs_first (Before es) u us h x j)
          (placed_cases t x us i)

  pub order_rises : (n : ℕ) → AllPairs (Before es) (order es n)
  order_rises zero = pairs_short (Before es) [] (omega arith)
  order_rises (suc n) = pairs_placed n (order es n) (order_below n) (order_rises n)

  length-placed : (t : ℕ) (us : List ℕ) → length (placed es t us) ≡ suc (length us)
  length-placed t [] = refl
  length-placed t (u ∷ us) =
      cond_both (sooner es t u) (t ∷ u ∷ us) (u ∷ placed es t us) (λ l. length l ≡ suc (suc (length us))) (λ _. refl)
      (λ _. ap suc (length-placed t us))

  pub length-order : (n : ℕ) → length (order es n) ≡ n
  length-order zero = refl
  length-order (suc n) = omega (arith, length-placed n (order es n), length-order n)

pub order_is_sorted_lem : OrderIsSorted
order_is_sorted_lem es n = record {
  many = length-order es n;
  all = has_order es n;
  none_else = order_below es n;
  rising = λ i j. order_rises es n i j 0;
}
