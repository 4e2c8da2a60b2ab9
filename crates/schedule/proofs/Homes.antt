-- How late the plan has run a task at its home, by the graph's grain: the processor of a cluster is compared, task by task, with the
-- run by the bounds alone.
use Rattle.std.proofs.Common.{◌≡◌, ℕ, zero, suc, ◌+◌, ◌*◌, ◌<◌, ◌≤◌, max, true, false, List, [], ◌∷◌, ◌++◌, length, get_or, filter, sym, refl, ap, ◌∙◌, subst, mul-le-mul_left, arith, below_more}
use Rattle.std.proofs.Math.Nat.{le-max_left, le-max_right}
use Rattle.std.specs.List.{Contains}
use Rattle.std.proofs.lemmas.List.{get_or_append_left, get_or_push, length_push}
use Rattle.std.proofs.lemmas.Bool.{cond_both}
use Rattle.schedule.specs.declared.Arc.{Arc}
use Rattle.schedule.specs.Graph.{Forward, Graph, duration, tasks}
use Rattle.schedule.specs.Bounds.{Bounds, Set, after, bound, order, run, run_from}
use Rattle.schedule.specs.Growth.{cluster}
use Rattle.schedule.specs.Plan.{finish, homes, inputs, members, starts}
use Rattle.schedule.specs.Theorems.{Grain}
use Rattle.schedule.proofs.BoundsRise.{arc_bound}
use Rattle.schedule.proofs.Clusters.{arrival_fits, members_are, others, run_fits}
use Rattle.schedule.proofs.Inputs.{inputs_fit}
use Rattle.schedule.proofs.Lists.{has_here, has_there}
use Rattle.schedule.proofs.Multiples.{mul-max}
use Rattle.schedule.proofs.RunningOrder.{order_below}
use Rattle.schedule.proofs.Runs.{after_in, after_out}
use Rattle.schedule.proofs.Sets.{with_old, with_self}

-- when v has ended at its home
abbrev pub home_end : Graph → List ℕ → ℕ → ℕ
home_end g es v = finish g (cluster g es v) (homes g es v) 0 (members g es v)

length-homes : (g : Graph) (es : List ℕ) (n : ℕ) → length (homes g es n) ≡ n
length-homes g es zero = refl
length-homes g es (suc n) = omega (arith, length_push (homes g es n) (home_end g es n), length-homes g es n)

pub homes_at : (g : Graph) (es : List ℕ) (n u : ℕ) → u < n → get_or (homes g es n) u 0 ≡ home_end g es u
homes_at g es zero u h = absurd (omega arith)
homes_at g es (suc n) u h =
    below_more (λ w. get_or (homes g es (suc n)) w 0 ≡ home_end g es w) n
    (λ w l. get_or_append_left (homes g es n) (home_end g es n ∷ []) 0 w (omega (arith, length-homes g es n, l)) ∙ homes_at g es n w l)
    (get_or_push (homes g es n) (home_end g es n) 0 n (length-homes g es n))
    u (omega (arith, h))

-- one task more on both clocks
step : (c s t u i e d : ℕ) → c * t ≤ c * u + s → c * i ≤ c * e + s → c * (max t i + d) ≤ c * (max u e + d) + s
step c s t u i e d h k =
    sum (max t i) (max u e)
    (mul-max c t i (c * max u e + s) (omega (arith, h, mul-le-mul_left c (le-max_left u e)))
    (omega (arith, k, mul-le-mul_left c (le-max_right u e))))
  where
    sum : (x y : ℕ) → c * x ≤ c * y + s → c * (x + d) ≤ c * (y + d) + s
    sum x y l = omega arith

-- an input from outside a cluster comes early enough
input_timely : (p q h l eu du ew ev : ℕ) → (p + q) * h ≤ (p + 2 * q) * eu + (p + q) * du → eu + du ≤ ew → eu + du + l ≤ ev → p * l ≤ q * du
    → (p + q) * (h + l) ≤ (p + q) * ew + q * ev
input_timely p q h l eu du ew ev a b c d = omega (arith, mul-le-mul_left (p + q) b, mul-le-mul_left q c)

finish-append : (g : Graph) (C : Set) (hs : List ℕ) (t : ℕ) (xs ys : List ℕ)
    → finish g C hs t (xs ++ ys) ≡ finish g C hs (finish g C hs t xs) ys
finish-append g C hs t [] ys = refl
finish-append g C hs t (x ∷ xs) ys = finish-append g C hs (starts g C hs t x + duration g x) xs ys

-- a cluster's processor lags behind the run by the bounds by no more than s
compare : (g : Graph) (es : List ℕ) (C K : Set) (hs : List ℕ) (c s : ℕ) (us : List ℕ)
    → ((u : ℕ) → Contains us u → K u ≡ true → c * inputs C hs u g.arcs ≤ c * bound es u + s)
    → (t u : ℕ) → c * t ≤ c * u + s → c * finish g C hs t (filter K us) ≤ c * run_from g es K u us + s
compare g es C K hs c s [] h t u l = l
compare g es C K hs c s (w ∷ ws) h t u l =
    cond_both (K w) (w ∷ filter K ws) (filter K ws) (λ x. c * finish g C hs t x ≤ c * run_from g es K (after g es K u w) ws + s)
    (λ e. compare g es C K hs c s ws rest (starts g C hs t w + duration g w) (after g es K u w)
    (subst (λ x. c * (starts g C hs t w + duration g w) ≤ c * x + s) (sym (after_in g es K u w e))
    (step c s t u (inputs C hs w g.arcs) (bound es w) (duration g w) l (h w (has_here w ws) e))))
    (λ e. compare g es C K hs c s ws rest t (after g es K u w)
    (subst (λ x. c * t ≤ c * x + s) (sym (after_out g es K u w e)) l))
  where
    rest : (z : ℕ) → Contains ws z → K z ≡ true → c * inputs C hs z g.arcs ≤ c * bound es z + s
    rest z i = h z (has_there w z ws i)

home_is : (g : Graph) (es : List ℕ) → Forward g → Bounds g es → (v : ℕ) → v < tasks g
    → home_end g es v ≡ max (finish g (cluster g es v) (homes g es v) 0 (filter (others g es v) (order es v)))
    (inputs (cluster g es v) (homes g es v) v g.arcs) + duration g v
home_is g es fw bs v small =
    ap (finish g (cluster g es v) (homes g es v) 0) (members_are g es fw bs v small)
    ∙ finish-append g (cluster g es v) (homes g es v) 0 (filter (others g es v) (order es v)) (v ∷ [])

module _ (g : Graph) (es : List ℕ) (fw : Forward g) (bs : Bounds g es) (p q : ℕ) (grain : Grain g p q) where
  abbrev Timely : ℕ → Type 0
  Timely u = (p + q) * home_end g es u ≤ (p + 2 * q) * bound es u + (p + q) * duration g u

  home_step : (v : ℕ) → v < tasks g → ((u : ℕ) → u < v → Timely u) → Timely v
  home_step v small ih =
      subst (λ x. (p + q) * x ≤ (p + 2 * q) * bound es v + (p + q) * duration g v) (sym (home_is g es fw bs v small))
      (sum (max F I) (mul-max (p + q) F I ((p + 2 * q) * bound es v)
      (omega (arith, lag, mul-le-mul_left (p + q) (run_fits g es fw bs v small)))
      (omega (arith, fit v (with_self (others g es v) v) (omega arith)))))
    where
      F : ℕ
      F = finish g (cluster g es v) (homes g es v) 0 (filter (others g es v) (order es v))

      I : ℕ
      I = inputs (cluster g es v) (homes g es v) v g.arcs

      sum : (x : ℕ) → (p + q) * x ≤ (p + 2 * q) * bound es v
          → (p + q) * (x + duration g v) ≤ (p + 2 * q) * bound es v + (p + q) * duration g v
      sum x h = omega arith

      arc_fits : (w : ℕ) → cluster g es v w ≡ true → w ≤ v → (a : Arc) → Contains g.arcs a → a.second ≡ w → cluster g es v a.first ≡ false
          → (p + q) * (get_or (homes g es v) a.first 0 + a.delay) ≤ (p + q) * bound es w + q * bound es v
      arc_fits w c l a h e f =
          let low : a.first < v = omega (arith, fw a h, e, l) in
          subst (λ x. (p + q) * (x + a.delay) ≤ (p + q) * bound es w + q * bound es v) (sym (homes_at g es v a.first low))
          (input_timely p q (home_end g es a.first) a.delay (bound es a.first) (duration g a.first) (bound es w) (bound es v)
          (ih a.first low)
          (subst (λ x. bound es a.first + duration g a.first ≤ bound es x) e (arc_bound g es fw bs a h))
          (arrival_fits g es fw bs v small a h (subst (λ x. cluster g es v x ≡ true) (sym e) c) f)
          (grain a h))

      fit : (w : ℕ) → cluster g es v w ≡ true → w ≤ v
          → (p + q) * inputs (cluster g es v) (homes g es v) w g.arcs ≤ (p + q) * bound es w + q * bound es v
      fit w c l =
          inputs_fit (cluster g es v) (homes g es v) w (p + q) ((p + q) * bound es w + q * bound es v) g.arcs (arc_fits w c l)

      lag : (p + q) * F ≤ (p + q) * run g es v (others g es v) + q * bound es v
      lag =
          compare g es (cluster g es v) (others g es v) (homes g es v) (p + q) (q * bound es v) (order es v)
          (λ u i k. fit u (with_old (others g es v) v u k) (omega (arith, order_below es v u i)))
          0 0 (omega arith)

  homes_timely : (n : ℕ) → n ≤ tasks g → (u : ℕ) → u < n → Timely u
  homes_timely zero h u l = absurd (omega arith)
  homes_timely (suc n) h u l =
      let lower : (w : ℕ) → w < n → Timely w = homes_timely n (omega (arith, h)) in
      below_more Timely n lower (home_step n (omega (arith, h)) lower) u (omega (arith, l))

  pub home_timely : (v : ℕ) → v < tasks g → (p + q) * home_end g es v ≤ (p + 2 * q) * bound es v + (p + q) * duration g v
  home_timely v small = homes_timely (tasks g) (omega arith) v small
