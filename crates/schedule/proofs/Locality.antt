-- What a task's bound is depends only on the bounds of the tasks below it.
use Rattle.std.proofs.Common.{◌≡◌, ℕ, zero, suc, ◌+◌, ◌<◌, max, true, cond, ltb, List, [], ◌∷◌, sym, refl, ap, ◌∙◌, ap₂, ⊎_elim, arith}
use Rattle.std.specs.List.{Contains}
use Rattle.std.proofs.lemmas.Bool.{cases_Bool, cond-false}
use Rattle.schedule.specs.declared.Arc.{Arc}
use Rattle.schedule.specs.Graph.{Forward, Graph, duration}
use Rattle.schedule.specs.Bounds.{Least, Set, after, arrival, bound, enters, front, latest, order, placed, reach, run, run_from, with}
use Rattle.schedule.proofs.Ancestry.{ancestor_below}
use Rattle.schedule.proofs.Lists.{has_here, has_there}
use Rattle.schedule.proofs.RunningOrder.{order_below}
use Rattle.schedule.proofs.Sets.{enters_parts, with_cases}

-- Two lists have the same bounds below n.
abbrev pub Agree : List ℕ → List ℕ → ℕ → Type 0
Agree es fs n = (u : ℕ) → u < n → bound es u ≡ bound fs u

-- The tasks of K are below n.
abbrev pub Below : ℕ → Set → Type 0
Below n K = (u : ℕ) → K u ≡ true → u < n

with_below : (v : ℕ) (K : Set) → Below v K → Below (suc v) (with K v)
with_below v K low u e = ⊎_elim (λ p. omega (arith, p)) (λ k. omega (arith, low u k)) (with_cases K v u e)

module _ (es fs : List ℕ) where
  -- the two lists give each of us the same bound
  abbrev Alike : List ℕ → Type 0
  Alike us = (u : ℕ) → Contains us u → bound es u ≡ bound fs u

  alike_rest : (u : ℕ) (us : List ℕ) → Alike (u ∷ us) → Alike us
  alike_rest u us h w i = h w (has_there u w us i)

  alike_order : (n : ℕ) → Agree es fs n → Alike (order es n)
  alike_order n a u i = a u (order_below es n u i)

  placed_agrees : (t : ℕ) (us : List ℕ) → bound es t ≡ bound fs t → Alike us → placed es t us ≡ placed fs t us
  placed_agrees t [] e h = refl
  placed_agrees t (u ∷ us) e h =
      ap₂ (λ x y. cond (ltb x y) (t ∷ u ∷ us) (u ∷ placed es t us)) e (h u (has_here u us)) ∙ ap
      (λ l. cond (ltb (bound fs t) (bound fs u)) (t ∷ u ∷ us) (u ∷ l)) (placed_agrees t us e (alike_rest u us h))

  pub order_agrees : (n : ℕ) → Agree es fs n → order es n ≡ order fs n
  order_agrees zero a = refl
  order_agrees (suc n) a =
      let b : Agree es fs n = λ u l. a u (omega (arith, l)) in
      placed_agrees n (order es n) (a n (omega arith)) (alike_order n b) ∙ ap (placed fs n) (order_agrees n b)

  module _ (g : Graph) where
    run_from_agrees : (K : Set) (t : ℕ) (us : List ℕ) → Alike us → run_from g es K t us ≡ run_from g fs K t us
    run_from_agrees K t [] h = refl
    run_from_agrees K t (u ∷ us) h =
        run_from_agrees K (after g es K t u) us (alike_rest u us h)
        ∙ ap (λ x. run_from g fs K (cond (K u) (max t x + duration g u) t) us) (h u (has_here u us))

    pub run_agrees : (v : ℕ) (K : Set) → Agree es fs v → run g es v K ≡ run g fs v K
    run_agrees v K a =
        run_from_agrees K 0 (order es v) (alike_order v a) ∙ ap (run_from g fs K 0) (order_agrees v a)

    module _ (fw : Forward g) (v : ℕ) (a : Agree es fs v) (S : Set) (low : Below (suc v) S) where
      same : (b : Arc) → Contains g.arcs b → enters S b ≡ true → arrival g es b ≡ arrival g fs b
      same b h e = omega (arith, a b.first (omega (arith, fw b h, low b.second (enters_parts S b e).0)))

      latest_agrees : (arcs : List Arc) → ((b : Arc) → Contains arcs b → enters S b ≡ true → arrival g es b ≡ arrival g fs b)
          → latest g es S arcs ≡ latest g fs S arcs
      latest_agrees [] h = refl
      latest_agrees (b ∷ rest) h =
          ap₂ (λ x y. max x y)
          (⊎_elim
          (λ e. ap (λ x. cond (enters S b) x 0) (h b (has_here b rest) e))
          (λ e. cond-false (enters S b) (arrival g es b) 0 e ∙ sym (cond-false (enters S b) (arrival g fs b) 0 e))
          (cases_Bool (enters S b)))
          (latest_agrees rest (λ c i. h c (has_there b c rest i)))

      pub front_agrees : front g es S ≡ front g fs S
      front_agrees = latest_agrees g.arcs same

    module _ (fw : Forward g) (v : ℕ) (a : Agree es fs v) where
      pub reach_agrees : (K : Set) → Below v K → reach g es v K ≡ reach g fs v K
      reach_agrees K low = ap₂ (λ x y. max x y) (run_agrees v K a) (front_agrees fw v a (with K v) (with_below v K low))

      pub least_agrees : (b : ℕ) → Least g es v b → Least g fs v b
      least_agrees b l = record {
        below = λ K anc. omega (arith, l.below K anc, reach_agrees K (λ u e. ancestor_below g fw (anc u e)));
        attained = (
          l.attained.0,
          l.attained.1,
          sym (reach_agrees l.attained.0 (λ u e. ancestor_below g fw (l.attained.1 u e)))
              ∙ l.attained.2,
        );
      }
