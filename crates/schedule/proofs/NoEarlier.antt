-- No valid schedule starts a task before its bound. Given a row of v on a processor, take the ancestors of v that have ended there
-- when it starts: their run has ended by then, and what enters them and v has come by then, so their reach, and with it the bound, is
-- no later than the row's start.
use Rattle.std.proofs.Common.{◌≡◌, ℕ, zero, suc, ◌+◌, ◌<◌, ◌≤◌, Bool, true, false, ◌&&◌, eqb, ltb, leb, ◌⊎◌, List, length, sym, refl, ap, ◌∙◌, subst, subst₂, inl, inr, ⊎_elim, arith}
use Rattle.std.specs.List.{Contains, position_or_len}
use Rattle.std.proofs.lemmas.Bool.{and_from, and_parts, both_ways, cases_lt, cases_order, eq-eqb, eqb-true, le-leb, leb-true, lt-ltb, ltb-true}
use Rattle.std.proofs.lemmas.List.Sums.{fails_before_first, passes_at_first}
use Rattle.schedule.specs.declared.Arc.{Arc}
use Rattle.schedule.specs.declared.Row.{Row}
use Rattle.schedule.specs.Graph.{Ancestor, Forward, Graph, by_arc, duration, tasks}
use Rattle.schedule.specs.Schedule.{Apart, InTime, Valid, at, end, no_row}
use Rattle.schedule.specs.Bounds.{Bounds, Set, arrival, bound, enters, front, reach, run, with}
use Rattle.schedule.specs.Theorems.{NoScheduleStartsEarlier}
use Rattle.schedule.proofs.Ancestry.{ancestor_before, ancestor_below, leads_complete, leads_sound, leads_to}
use Rattle.schedule.proofs.Fronts.{front_low}
use Rattle.schedule.proofs.Runs.{run_within}
use Rattle.schedule.proofs.Sets.{enters_parts, with_cases, with_false}

-- where a row passes a test, the first that passes is found
found : (q : Row → Bool) (rows : List Row) (i : ℕ) → i < length rows → q (at rows i) ≡ true → position_or_len q rows < length rows
found q rows i l e =
    ⊎_elim
    (λ k. k)
    (λ k. absurd (both_ways (q (at rows i)) (fails_before_first q rows i no_row (omega (arith, l, k))) e))
    (cases_lt (position_or_len q rows) (length rows))

-- a row of u on p that ends by s
abbrev runs : Graph → ℕ → ℕ → ℕ → Row → Bool
runs g p s u r = eqb r.processor p && (eqb r.task u && leb (end g r) s)

-- the place of the first of them
before : Graph → List Row → ℕ → ℕ → ℕ → ℕ
before g rows p s u = position_or_len (runs g p s u) rows

-- the ancestors of v that have such a row
ahead : Graph → List Row → ℕ → ℕ → ℕ → Set
ahead g rows p s v u = leads_to g u (suc v) v && ltb (before g rows p s u) (length rows)

record Ran (g : Graph) (rows : List Row) (p s v u i : ℕ) : Type 0 where
  leads : Ancestor g u v
  within : i < length rows
  here : (at rows i).processor ≡ p
  of : (at rows i).task ≡ u
  ends : end g (at rows i) ≤ s

ran_from_ahead : (g : Graph) (rows : List Row) (p s v u : ℕ) → ahead g rows p s v u ≡ true → Ran g rows p s v u (before g rows p s u)
unfolding ahead before
ran_from_ahead g rows p s v u h =
    let i : ℕ = before g rows p s u in
    let t = and_parts (leads_to g u (suc v) v) (ltb i (length rows)) h in
    let l : i < length rows = ltb-true i (length rows) t.1 in
    let r : Row = at rows i in
    let a = and_parts (eqb r.processor p) (eqb r.task u && leb (end g r) s) (passes_at_first (runs g p s u) rows no_row l) in
    let b = and_parts (eqb r.task u) (leb (end g r) s) a.1 in
    record {
      leads = leads_sound g u (suc v) v t.0;
      within = l;
      here = eqb-true r.processor p a.0;
      of = eqb-true r.task u
          b.0;
      ends = leb-true (end g r) s b.1;
    }

ahead_from_ran : (g : Graph) (rows : List Row) → Forward g → (p s v u i : ℕ) → Ran g rows p s v u i → ahead g rows p s v u ≡ true
unfolding ahead before
ahead_from_ran g rows f p s v u i h =
    let r : Row = at rows i in
    and_from (leads_to g u (suc v) v) (ltb (before g rows p s u) (length rows)) (leads_complete g f u (suc v) v (omega arith) h.leads)
    (lt-ltb (before g rows p s u) (length rows) (found (runs g p s u) rows i h.within
    (and_from (eqb r.processor p) (eqb r.task u && leb (end g r) s) (eq-eqb r.processor p h.here)
    (and_from (eqb r.task u) (leb (end g r) s) (eq-eqb r.task u h.of) (le-leb (end g r) s h.ends)))))

module _ (g : Graph) (es : List ℕ) (fw : Forward g) (bs : Bounds g es) (rows : List Row) (valid : Valid g rows) where
  -- every row of v starts no earlier than the bound of v
  Late : ℕ → Type 0
  Late v = (i : ℕ) → i < length rows → (at rows i).task ≡ v → bound es v ≤ (at rows i).start

  rows_apart : (i j : ℕ) → i < length rows → j < length rows → (i ≡ j → ⊥) → (at rows i).processor ≡ (at rows j).processor
      → Apart g (at rows i) (at rows j)
  rows_apart i j li lj ne e = go (cases_order i j)
    where
      go : (i ≡ j) ⊎ ((i < j) ⊎ (j < i)) → Apart g (at rows i) (at rows j)
      go (inl q) = absurd (ne q)
      go (inr (inl l)) = valid.apart i j l lj e
      go (inr (inr l)) = elim (valid.apart j i l li (sym e)) [ inl x ↦ inr x | inr x ↦ inl x ]

  run_by : (p s v : ℕ) → ((u : ℕ) → u < v → Late u) → run g es v (ahead g rows p s v) ≤ s
  unfolding Late
  run_by p s v lower = run_within g es v (ahead g rows p s v) (λ z. (at rows (before g rows p s z)).start) s (record {
    from = λ z l h. let r = ran_from_ahead g rows p s v z h in lower z l (before g rows p s z) r.within r.of;
    to = λ z l h. let r = ran_from_ahead g rows p s v z h in subst (λ x. (at rows (before g rows p s z)).start + duration g x ≤ s) r.of
        r.ends;
    apart = λ x y lx ly hx hy ne.
        let rx = ran_from_ahead g rows p s v x hx in
        let ry = ran_from_ahead g rows p s v y hy in
        let i : ℕ = before g rows p s x in
        let j : ℕ = before g rows p s y in
        subst₂ (λ a b. ((at rows i).start + duration g a ≤ (at rows j).start) ⊎ ((at rows j).start + duration g b ≤ (at rows i).start)) rx.of
        ry.of
        (rows_apart i j rx.within ry.within (λ q. ne (sym rx.of ∙ (ap (λ k. (at rows k).task) q ∙ ry.of)))
        (rx.here ∙ sym ry.here));
  })

  -- an arc from a task that is not ahead, into one that starts on p by s
  arrives : (p s v : ℕ) → ((u : ℕ) → u < v → Late u) → (a : Arc) → Contains g.arcs a → ahead g rows p s v a.first ≡ false
      → Ancestor g a.first v
      → (k : ℕ) → k < length rows → (at rows k).task ≡ a.second → (at rows k).processor ≡ p → (at rows k).start ≤ s → arrival g es a ≤ s
  unfolding Late
  arrives p s v lower a h out leads k l t e by = go (valid.fed k l a h (sym t))
    where
      go : (j : ℕ) × (j < length rows) × ((at rows j).task ≡ a.first) × InTime g a.delay (at rows j) (at rows k) → arrival g es a ≤ s
      go (j, lj, tj, inl c) = absurd (both_ways (ahead g rows p s v a.first) out
          (ahead_from_ran g rows fw p s v a.first j
          (record { leads = leads; within = lj; here = c.0 ∙ e; of = tj; ends = omega (arith, c.1) })))
      go (j, lj, tj, inr c) = omega (arith, c.1, ap (duration g) tj, lower a.first (ancestor_below g fw leads) j lj tj)

  front_by : (v i : ℕ) → ((u : ℕ) → u < v → Late u) → i < length rows → (at rows i).task ≡ v
      → front g es (with (ahead g rows (at rows i).processor (at rows i).start v) v) ≤ (at rows i).start
  front_by v i lower l t = front_low g es (with K v) s entering
    where
      p : ℕ
      p = (at rows i).processor

      s : ℕ
      s = (at rows i).start

      K : Set
      K = ahead g rows p s v

      entering : (a : Arc) → Contains g.arcs a → enters (with K v) a ≡ true → arrival g es a ≤ s
      entering a h e =
          let parts = enters_parts (with K v) a e in
          let out = (with_false K v a.first parts.1).1 in
          elim (with_cases K v a.second parts.0) [
            | inl w ↦ arrives p s v lower a h out (by_arc a h refl w) i l (t ∙ sym w) refl (omega arith)
            | inr q ↦ let r = ran_from_ahead g rows p s v a.second q in
                arrives p s v lower a h out (ancestor_before g a h refl r.leads) (before g rows p s a.second) r.within r.of
                r.here (omega (arith, r.ends))
          ]

  late : (v : ℕ) → ((u : ℕ) → u < v → Late u) → Late v
  unfolding Late
  late v lower i l t =
      let K : Set = ahead g rows (at rows i).processor (at rows i).start v in
      let b : bound es v ≤ reach g es v K = (bs.least v (subst (λ x. x < tasks g) t (valid.known i l))).below K
      (λ u h. (ran_from_ahead g rows (at rows i).processor (at rows i).start v u h).leads) in
      omega (arith, b, run_by (at rows i).processor (at rows i).start v lower, front_by v i lower l t)

  all_late : (n v : ℕ) → v < n → Late v
  all_late zero v l = absurd (omega arith)
  all_late (suc n) v l = late v (λ u k. all_late n u (omega arith))

  starts_late : (i : ℕ) → i < length rows → bound es (at rows i).task ≤ (at rows i).start
  unfolding Late
  starts_late i l = all_late (suc (at rows i).task) (at rows i).task (omega arith) i l refl

pub no_schedule_starts_earlier_lem : NoScheduleStartsEarlier
no_schedule_starts_earlier_lem g es fw bs rows valid i l = starts_late g es fw bs rows valid i l
