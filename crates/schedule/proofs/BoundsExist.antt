-- Every forward graph has bounds, as growth finds them task by task, and only one list of them.
use Rattle.std.proofs.Common.{◌≡◌, ℕ, zero, suc, ◌<◌, List, [], ◌∷◌, ◌++◌, length, sym, refl, ◌∙◌, subst, arith, below_more}
use Rattle.std.proofs.lemmas.List.{ext_get_or, get_or_append_left, get_or_push, length_push}
use Rattle.schedule.specs.Graph.{Forward, Graph, tasks}
use Rattle.schedule.specs.Bounds.{Bounds, BoundsTo, Least, bound}
use Rattle.schedule.specs.Growth.{found_bound, found_bounds}
use Rattle.schedule.specs.Theorems.{BoundsExistAndAreUnique}
use Rattle.schedule.proofs.GrowthTurns.{growth_least, least_one}
use Rattle.schedule.proofs.Locality.{Agree, least_agrees}

module _ (g : Graph) (fw : Forward g) where
  -- a list of bounds, and one more that was found with it
  pub bounds_more : (es : List ℕ) (v b : ℕ) → length es ≡ v → BoundsTo g es v → Least g es v b → BoundsTo g (es ++ b ∷ []) (suc v)
  bounds_more es v b len each here u l =
      below_more (λ w. Least g (es ++ b ∷ []) w (bound (es ++ b ∷ []) w)) v
      (λ w m. subst (Least g (es ++ b ∷ []) w) (sym (old w m))
      (least_agrees es (es ++ b ∷ []) g fw w (λ x n. sym (old x (omega (arith, m, n)))) (bound es w) (each w m)))
      (subst (Least g (es ++ b ∷ []) v) (sym (get_or_push es b 0 v len))
      (least_agrees es (es ++ b ∷ []) g fw v (λ w m. sym (old w m)) b here))
      u (omega (arith, l))
    where
      old : (w : ℕ) → w < v → bound (es ++ b ∷ []) w ≡ bound es w
      old w m = get_or_append_left es (b ∷ []) 0 w (omega (arith, len, m))

  length_found : (n : ℕ) → length (found_bounds g n) ≡ n
  length_found zero = refl
  length_found (suc n) = omega (arith, length_push (found_bounds g n) (found_bound g (found_bounds g n) n), length_found n)

  found_to : (n : ℕ) → BoundsTo g (found_bounds g n) n
  found_to zero u l = absurd (omega arith)
  found_to (suc n) u l =
      bounds_more (found_bounds g n) n (found_bound g (found_bounds g n) n) (length_found n) (found_to n)
      (growth_least g (found_bounds g n) n fw) u l

  pub found_are_bounds : Bounds g (found_bounds g (tasks g))
  found_are_bounds = record { each = omega (arith, length_found (tasks g)); least = found_to (tasks g) }

  -- the bounds below n determine the next one
  pub bounds_agree : (es fs : List ℕ) (n : ℕ) → BoundsTo g es n → BoundsTo g fs n → Agree es fs n
  bounds_agree es fs zero b c u l = absurd (omega arith)
  bounds_agree es fs (suc n) b c u l =
      let lower : Agree es fs n = bounds_agree es fs n (λ w m. b w (omega (arith, m))) (λ w m. c w (omega (arith, m))) in
      below_more (λ w. bound es w ≡ bound fs w) n lower
      (least_one g fs n (bound es n) (bound fs n) (least_agrees es fs g fw n lower (bound es n) (b n (omega arith))) (c n (omega arith)))
      u (omega (arith, l))

  pub bounds_unique : (es fs : List ℕ) → Bounds g es → Bounds g fs → es ≡ fs
  bounds_unique es fs b c =
      ext_get_or 0 es fs (b.each ∙ sym c.each) (λ i l. bounds_agree es fs (tasks g) b.least c.least i (omega (arith, l, b.each)))

pub bounds_exist_and_are_unique_lem : BoundsExistAndAreUnique
bounds_exist_and_are_unique_lem g fw =
    (found_are_bounds g fw, λ es b. bounds_unique g fw es (found_bounds g (tasks g)) b (found_are_bounds g fw))
