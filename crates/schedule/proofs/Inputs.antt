-- When the inputs that a cluster gets from outside have come: the last one by a tick if each one has.
use Rattle.std.proofs.Common.{◌≡◌, ℕ, ◌+◌, ◌*◌, ◌≤◌, false, not, ◌&&◌, eqb, List, [], ◌∷◌, get_or, arith}
use Rattle.std.specs.List.{Contains}
use Rattle.std.proofs.lemmas.Bool.{and_from, and_parts, cond_both, cond-true, eq-eqb, eqb-true, not_from_false, not-true}
use Rattle.schedule.specs.declared.Arc.{Arc}
use Rattle.schedule.specs.Graph.{Graph}
use Rattle.schedule.specs.Bounds.{Set}
use Rattle.schedule.specs.Plan.{input, inputs, starts}
use Rattle.schedule.proofs.Lists.{each_more, has_here, has_there}
use Rattle.schedule.proofs.Multiples.{mul-max}

module _ (C : Set) (hs : List ℕ) (w : ℕ) where
  -- an arc from outside C to w brings its input after the end of its first task at home, and the delay
  input_in : (a : Arc) → a.second ≡ w → C a.first ≡ false → input C hs w a ≡ get_or hs a.first 0 + a.delay
  input_in a e f =
      cond-true (eqb a.second w && not (C a.first)) (get_or hs a.first 0 + a.delay) 0
      (and_from (eqb a.second w) (not (C a.first)) (eq-eqb a.second w e) (not_from_false (C a.first) f))

  -- other arcs bring nothing
  input_fits : (c m : ℕ) (a : Arc) → (a.second ≡ w → C a.first ≡ false → c * (get_or hs a.first 0 + a.delay) ≤ m)
      → c * input C hs w a ≤ m
  input_fits c m a h =
      cond_both (eqb a.second w && not (C a.first)) (get_or hs a.first 0 + a.delay) 0 (λ x. c * x ≤ m)
      (λ e. let p = and_parts (eqb a.second w) (not (C a.first)) e in h (eqb-true a.second w p.0)
      (not-true (C a.first) p.1))
      (λ _. omega arith)

  -- all inputs have come, c times over, by m if each has
  pub inputs_fit : (c m : ℕ) (arcs : List Arc)
      → ((a : Arc) → Contains arcs a → a.second ≡ w → C a.first ≡ false → c * (get_or hs a.first 0 + a.delay) ≤ m)
      → c * inputs C hs w arcs ≤ m
  inputs_fit c m [] f = omega arith
  inputs_fit c m (a ∷ rest) f =
      mul-max c (input C hs w a) (inputs C hs w rest) m (input_fits c m a (f a (has_here a rest)))
      (inputs_fit c m rest (λ b i. f b (has_there a b rest i)))

  -- and each has when all have
  pub inputs_all : (m : ℕ) (arcs : List Arc) → inputs C hs w arcs ≤ m
      → (a : Arc) → Contains arcs a → a.second ≡ w → C a.first ≡ false → get_or hs a.first 0 + a.delay ≤ m
  inputs_all m [] h = λ a i e f. absurd (omega (arith, i.1))
  inputs_all m (a ∷ rest) h =
      each_more (λ b. b.second ≡ w → C b.first ≡ false → get_or hs b.first 0 + b.delay ≤ m) a rest
      (λ e f. omega (arith, h, input_in a e f))
      (inputs_all m rest (omega (arith, h)))

  -- A copy starts no sooner than its processor is free, no sooner than its inputs have come, and as soon as both are so.
  module _ (g : Graph) (t : ℕ) where
    pub starts_free : t ≤ starts g C hs t w
    starts_free = omega arith

    pub starts_fed : inputs C hs w g.arcs ≤ starts g C hs t w
    starts_fed = omega arith

    pub starts_soon : (m : ℕ) → t ≤ m → inputs C hs w g.arcs ≤ m → starts g C hs t w ≤ m
    starts_soon m f l = omega arith
