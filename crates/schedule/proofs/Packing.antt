-- Runs that are apart within a stretch of time do not together take longer than the stretch. The proof counts ticks: at each tick at
-- most one of the runs goes on, and a run of no duration covers no tick.
use Rattle.std.proofs.Common.{◌≡◌, ℕ, zero, suc, ◌+◌, ◌-◌, ◌<◌, ◌≤◌, min, ◌⊎◌, List, [], ◌∷◌, refl, inl, inr, ⊎_elim, arith}
use Rattle.std.specs.List.{AllPairs, Contains, sum_by}
use Rattle.std.proofs.lemmas.Bool.{cases_lt}
use Rattle.std.proofs.lemmas.List.Sums.{sum_by-cons}
use Rattle.schedule.specs.Laws.{Separate}
use Rattle.schedule.proofs.Lists.{has_here, has_there, pairs_first, pairs_rest}

module _ (start d : ℕ → ℕ) where
  -- how much of the runs of zs is done at tick t
  used : ℕ → List ℕ → ℕ
  used t zs = sum_by (λ z. min (d z) (t - start z)) zs

  used_more : (t z : ℕ) (zs : List ℕ) → used t (z ∷ zs) ≡ min (d z) (t - start z) + used t zs
  unfolding used
  used_more t z zs = sum_by-cons (λ z. min (d z) (t - start z)) z zs

  Covers : ℕ → ℕ → Type 0
  Covers t z = (start z ≤ t) × (t < start z + d z)

  used_still : (t : ℕ) (zs : List ℕ) → ((z : ℕ) → Contains zs z → Covers t z → ⊥) → used (suc t) zs ≡ used t zs
  unfolding used Covers
  used_still t [] h = refl
  used_still t (z ∷ zs) h = go (used_still t zs (λ y i. h y (has_there z y zs i))) (cases_lt t (start z)) (cases_lt t (start z + d z))
    where
      go : used (suc t) zs ≡ used t zs → (t < start z) ⊎ (start z ≤ t) → (t < start z + d z) ⊎ (start z + d z ≤ t)
          → used (suc t) (z ∷ zs) ≡ used t (z ∷ zs)
      go r (inl p) q = omega (arith, used_more t z zs, used_more (suc t) z zs)
      go r (inr p) (inl q) = absurd (h z (has_here z zs) (p, q))
      go r (inr p) (inr q) = omega (arith, used_more t z zs, used_more (suc t) z zs)

  used_step : (t : ℕ) (zs : List ℕ) → AllPairs (Separate start d) zs → used (suc t) zs ≤ suc (used t zs)
  unfolding used Covers
  used_step t [] h = omega arith
  used_step t (z ∷ zs) h = go (used_step t zs (pairs_rest (Separate start d) z zs h)) (cases_lt t (start z)) (cases_lt t (start z + d z))
    where
      go : used (suc t) zs ≤ suc (used t zs) → (t < start z) ⊎ (start z ≤ t) → (t < start z + d z) ⊎ (start z + d z ≤ t)
          → used (suc t) (z ∷ zs) ≤ suc (used t (z ∷ zs))
      go r (inl p) q = omega (arith, used_more t z zs, used_more (suc t) z zs)
      go r (inr p) (inl q) =
          let s : used (suc t) zs ≡ used t zs = used_still t zs
          (λ y i c. omega (arith, pairs_first (Separate start d) z zs h y i, p, q, c)) in
          omega (arith, used_more t z zs, used_more (suc t) z zs)
      go r (inr p) (inr q) = omega (arith, used_more t z zs, used_more (suc t) z zs)

  used_none : (a t : ℕ) (zs : List ℕ) → t ≤ a → ((z : ℕ) → Contains zs z → a ≤ start z) → used t zs ≡ 0
  unfolding used
  used_none a t [] l h = refl
  used_none a t (z ∷ zs) l h = omega (arith, used_more t z zs, h z (has_here z zs), used_none a t zs l (λ y i. h y (has_there z y zs i)))

  used_all : (s : ℕ) (zs : List ℕ) → ((z : ℕ) → Contains zs z → start z + d z ≤ s) → used s zs ≡ sum_by d zs
  unfolding used
  used_all s [] h = refl
  used_all s (z ∷ zs) h = omega (arith, used_more s z zs, sum_by-cons d z zs, h z (has_here z zs), used_all s zs (λ y i. h y (has_there z y zs i)))

  used_by : (a t : ℕ) (zs : List ℕ) → ((z : ℕ) → Contains zs z → a ≤ start z) → AllPairs (Separate start d) zs → used t zs ≤ t - a
  used_by a zero zs h p = omega (arith, used_none a 0 zs (omega arith) h)
  used_by a (suc t) zs h p = ⊎_elim
      (λ (l : a < suc t). omega (arith, used_step t zs p, used_by a t zs h p))
      (λ (l : suc t ≤ a). omega (arith, used_none a (suc t) zs l h))
      (cases_lt a (suc t))

  pub packed : (a s : ℕ) (zs : List ℕ) → a ≤ s → ((z : ℕ) → Contains zs z → a ≤ start z) → ((z : ℕ) → Contains zs z → start z + d z ≤ s)
      → AllPairs (Separate start d) zs → a + sum_by d zs ≤ s
  packed a s zs l from to apart = omega (arith, used_by a s zs from apart, used_all s zs to)
