-- For graphs within the limits every number that the planner computes is small.
use Rattle.std.proofs.Common.{◌≡◌, ℕ, zero, suc, ◌+◌, ◌*◌, ◌<◌, ◌≤◌, max, true, List, [], ◌∷◌, length, refl, ap, ⊎_elim, arith}
use Rattle.std.specs.List.{Contains}
use Rattle.std.proofs.lemmas.List.{get_or_past, length-append}
use Rattle.std.proofs.lemmas.List.Sums.{count_by-le-length, length-filter}
use Rattle.std.proofs.lemmas.Bool.{cases_lt, cond_both, false≢true}
use Rattle.schedule.specs.declared.Arc.{Arc}
use Rattle.schedule.specs.declared.Row.{Row}
use Rattle.schedule.specs.Graph.{Forward, Graph, duration, tasks}
use Rattle.schedule.specs.Schedule.{end}
use Rattle.schedule.specs.Bounds.{Bounds, BoundsTo, Set, after, arrival, bound, front, order, reach, run, run_from, with}
use Rattle.schedule.specs.Growth.{cluster, none}
use Rattle.schedule.specs.Plan.{home_rows, homes, marks, members, plan, rows_from, starts, timed}
use Rattle.schedule.specs.Sizes.{GrowthFits, NumbersFit, PlanFits, Small}
use Rattle.schedule.proofs.Ancestry.{ancestor_below}
use Rattle.schedule.proofs.Fronts.{front_low}
use Rattle.schedule.proofs.Homes.{home_end, home_timely, homes_at}
use Rattle.schedule.proofs.Lists.{has_here, has_there}
use Rattle.schedule.proofs.Makespans.{span_low}
use Rattle.schedule.proofs.Marks.{length_marked, marks_below}
use Rattle.schedule.proofs.PlanShort.{ends_by_home}
use Rattle.schedule.proofs.PlanValid.{plan_known}
use Rattle.schedule.proofs.ProcessorRows.{at_home, home_row, host, host_marked, hosted}
use Rattle.schedule.proofs.RunningOrder.{length-order, order_below}
use Rattle.schedule.proofs.Sets.{enters_parts, with_cases}

run_none : (g : Graph) (es : List ℕ) (t : ℕ) (us : List ℕ) → run_from g es none t us ≡ t
run_none g es t [] = refl
run_none g es t (u ∷ us) = run_none g es t us

-- a run that starts by m, of tasks whose bounds are at most m
run_most : (g : Graph) (es : List ℕ) (K : Set) (m t : ℕ) (us : List ℕ)
    → t ≤ m → ((u : ℕ) → Contains us u → (bound es u ≤ m) × (duration g u ≤ 1_000_000)) → run_from g es K t us ≤ m + 1_000_000 * length us
run_most g es K m t [] l h = omega arith
run_most g es K m t (u ∷ us) l h =
    let step : after g es K t u ≤ m + 1_000_000 = cond_both (K u) (max t (bound es u) + duration g u) t (λ x. x ≤ m + 1_000_000)
    (λ _. omega (arith, h u (has_here u us))) (λ _. omega arith) in
    let rest = run_most g es K (m + 1_000_000) (after g es K t u) us step
    (λ w i. let k = h w (has_there u w us i) in (omega (arith, k.0), k.1)) in
    omega (arith, rest)

length-timed : (g : Graph) (C : Set) (hs : List ℕ) (p t : ℕ) (ws : List ℕ) → length (timed g C hs p t ws) ≡ length ws
length-timed g C hs p t [] = refl
length-timed g C hs p t (w ∷ ws) = ap suc (length-timed g C hs p (starts g C hs t w + duration g w) ws)

length-home_rows : (g : Graph) (es : List ℕ) (p v : ℕ) → length (home_rows g es p v) ≤ suc v
length-home_rows g es p v =
    omega (
      arith,
      length-timed g (cluster g es v) (homes g es v) p 0 (members g es v),
      length-filter (cluster g es v) (order es (suc v)),
      count_by-le-length (cluster g es v) (order es (suc v)),
      length-order es (suc v),
    )

length-rows : (g : Graph) (es : List ℕ) (p : ℕ) (vs : List ℕ) → ((v : ℕ) → Contains vs v → v < 256) → length (rows_from g es p vs) ≤ 256 * length vs
length-rows g es p [] h = omega arith
length-rows g es p (v ∷ vs) h =
    omega (
      arith,
      length-append (home_rows g es p v) (rows_from g es (suc p) vs),
      length-home_rows g es p v,
      length-rows g es (suc p) vs (λ w i. h w (has_there v w vs i)),
      h v (has_here v vs),
    )

module _ (g : Graph) (es : List ℕ) (fw : Forward g) (small : Small g) where
  duration_most : (t : ℕ) → duration g t ≤ 1_000_000
  duration_most t =
      ⊎_elim (λ l. small.short t l) (λ l. omega (arith, get_or_past g.durations t 0 l)) (cases_lt t (tasks g))

  -- an arc brings at most 2,000,000 more than the bound of its first task
  arrival_most : (n : ℕ) → ((u : ℕ) → u < n → bound es u ≤ 2_000_000 * u) → (a : Arc) → Contains g.arcs a → a.first < n
      → arrival g es a ≤ 2_000_000 * a.first + 2_000_000
  arrival_most n lower a h l = omega (arith, lower a.first l, duration_most a.first, small.near a h)

  front_most : (v : ℕ) → ((u : ℕ) → u < v → bound es u ≤ 2_000_000 * u) → (K : Set) → ((u : ℕ) → K u ≡ true → u < v)
      → front g es (with K v) ≤ 2_000_000 * v
  front_most v lower K low =
      front_low g es (with K v) (2_000_000 * v)
      (λ a h e.
      let by : a.second ≤ v = ⊎_elim (λ p. omega (arith, p)) (λ k. omega (arith, low a.second k))
      (with_cases K v a.second (enters_parts (with K v) a e).0) in
      let first : a.first < v = omega (arith, fw a h, by) in
      omega (arith, arrival_most v lower a h first, first))

  -- with no other task on its processor, a task starts by 2,000,000 × its number
  bound_most : (n : ℕ) → BoundsTo g es n → (v : ℕ) → v < n → bound es v ≤ 2_000_000 * v
  bound_most zero bs v l = absurd (omega arith)
  bound_most (suc n) bs v l =
      let lower : (u : ℕ) → u < n → bound es u ≤ 2_000_000 * u = bound_most n (λ u k. bs u (omega (arith, k))) in
      let b : bound es v ≤ reach g es v none = (bs v l).below none (λ u e. absurd (false≢true e)) in
      let f : front g es (with none v) ≤ 2_000_000 * v = front_most v (λ u k. lower u (omega (arith, k, l))) none
      (λ u e. absurd (false≢true e)) in
      omega (arith, b, f, run_none g es 0 (order es v))

  module _ (n : ℕ) (few : n ≤ tasks g) (bs : BoundsTo g es n) where
    run_of : (v : ℕ) → v ≤ n → (K : Set) → run g es v K ≤ 768_000_000
    run_of v l K =
        let each : (u : ℕ) → Contains (order es v) u → (bound es u ≤ 512_000_000) × (duration g u ≤ 1_000_000) = λ u i.
        let k = order_below es v u i in
        (omega (arith, bound_most n bs u (omega (arith, k, l)), k, l, few, small.few), duration_most u) in
        omega (arith, run_most g es K 512_000_000 0 (order es v) (omega arith) each, length-order es v, l, few, small.few)

    growth_fits : GrowthFits g es n
    growth_fits = record {
      bounds = λ v l. omega (arith, bound_most n bs v l, l, few, small.few);
      runs = run_of;
      arrivals = λ a h l. omega (arith, arrival_most n (bound_most n bs) a h l, l, few, small.few, fw a h);
      fronts = λ v l K anc. omega
          (arith, front_most v (λ u k. bound_most n bs u (omega (arith, k, l))) K (λ u e. ancestor_below g fw (anc u e)), l, few, small.few);
    }

  module _ (bs : Bounds g es) where
    -- with p = 0 and q = 1, a task has ended at its home by twice its bound and its duration
    home_most : (v : ℕ) → v < tasks g → home_end g es v ≤ 1_021_000_000
    home_most v l =
        omega
        (arith, home_timely g es fw bs 0 1 (λ a h. omega arith) v l, bound_most (tasks g) bs.least v l, duration_most v, l, small.few)

    row_fits : (r : Row) → Contains (plan g es) r → (r.processor < 256) × (r.task < 256) × (end g r ≤ 1_021_000_000)
    row_fits r h =
        let v : ℕ = host g es r in
        let home = hosted g es r h in
        let small : v < tasks g = marks_below g es v (host_marked g es r h) in (
          omega (arith, home.0, length_marked g es (tasks g), few),
          omega (arith, plan_known g es fw bs r h, few),
          omega (arith, (home_row g es r.processor v r (at_home g es v r h home)).by, home_most v small),
        )
      where
        few : tasks g ≤ 256
        few = small.few

    plan_fits : PlanFits g es
    plan_fits = record {
      at_home = λ v l. omega (arith, homes_at g es (tasks g) v l, home_most v l);
      input = λ a h. let l : a.first < tasks g = omega (arith, fw a h) in omega
          (arith, homes_at g es (tasks g) a.first l, home_most a.first l, small.near a h);
      rows = row_fits;
      long = let s = span_low g (plan g es) 1 1_021_000_000 (tasks g)
          (λ t l e. omega (arith, ends_by_home g es fw bs t l e, home_most t l)) in omega (arith, s);
      processors = omega (arith, length_marked g es (tasks g), small.few);
      row_count =
          let below : (v : ℕ) → Contains (marks g es) v → v < 256 = λ v h. omega (arith, marks_below g es v h, small.few) in
          omega (arith, length-rows g es 0 (marks g es) below, length_marked g es (tasks g), small.few);
    }

pub numbers_fit_lem : NumbersFit
numbers_fit_lem g es fw small = (growth_fits g es fw small, plan_fits g es fw small)
