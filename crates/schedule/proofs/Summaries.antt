-- A run is what the joined run summaries of its tasks say.
use Rattle.std.proofs.Common.{◌≡◌, ℕ, ◌+◌, ◌≤◌, max, true, false, List, [], ◌∷◌, refl, ap, ◌∙◌, ⊎_elim, arith}
use Rattle.std.proofs.lemmas.Bool.{and_from, cases_Bool, cond-false, cond-true, le-leb}
use Rattle.segment_tree.specs.RunSummaries.{makes_run, no_run, run_read}
use Rattle.schedule.specs.Graph.{Graph, duration}
use Rattle.schedule.specs.Bounds.{Set, after, bound, run_from}
use Rattle.schedule.specs.Summaries.{RunsAreJoinedSummaries, Summarised, summary, summed, work_of}
use Rattle.schedule.proofs.Runs.{after_in, after_out, run_low}

module _ (g : Graph) (es : List ℕ) (K : Set) where
  -- a run from tick t on: all its work after t, or its end from 0 on, whichever is later
  run_from_tick : (t : ℕ) (us : List ℕ) → run_from g es K t us ≡ max (t + work_of g K us) (run_from g es K 0 us)
  run_from_tick t [] = omega arith
  run_from_tick t (u ∷ us) =
      let late = run_from_tick (after g es K t u) us in
      let early = run_from_tick (after g es K 0 u) us in
      ⊎_elim
      (λ k. omega (arith, late, early, after_in g es K t u k, after_in g es K 0 u k, cond-true (K u) (duration g u) 0 k))
      (λ k. omega (arith, late, early, after_out g es K t u k, after_out g es K 0 u k, cond-false (K u) (duration g u) 0 k))
      (cases_Bool (K u))

  -- numbers that make a summary are those of the summary
  read_numbers : (work finish : ℕ) → work ≤ finish → finish ≤ 4_000_000_000
      → ((run_read (record { work = work; finish = finish })).work ≡ work) × ((run_read (record { work = work; finish = finish })).finish ≡ finish)
  read_numbers w f l m =
      let e = and_from _ _ (le-leb w f l) (le-leb f 4_000_000_000 m) in
      (cond-true (makes_run w f) w 0 e, cond-true (makes_run w f) f 0 e)

  summary_in : (u : ℕ) → K u ≡ true → bound es u + duration g u ≤ 4_000_000_000
      → ((summary g es K u).work ≡ duration g u) × ((summary g es K u).finish ≡ bound es u + duration g u)
  summary_in u k l =
      let n = read_numbers (duration g u) (bound es u + duration g u) (omega arith) l in
      let e = cond-true (K u) (run_read (record { work = duration g u; finish = bound es u + duration g u })) no_run k in
      (ap (λ s. s.work) e ∙ n.0, ap (λ s. s.finish) e ∙ n.1)

  summary_out : (u : ℕ) → K u ≡ false → ((summary g es K u).work ≡ 0) × ((summary g es K u).finish ≡ 0)
  summary_out u k =
      let e = cond-false (K u) (run_read (record { work = duration g u; finish = bound es u + duration g u })) no_run k in
      (ap (λ s. s.work) e, ap (λ s. s.finish) e)

  Numbers : List ℕ → Type 0
  Numbers us = ((summed g es K us).work ≡ work_of g K us) × ((summed g es K us).finish ≡ run_from g es K 0 us)

  join_numbers : (u : ℕ) (us : List ℕ) → run_from g es K 0 (u ∷ us) ≤ 4_000_000_000 → Numbers us → Numbers (u ∷ us)
  unfolding Numbers
  join_numbers u us l ih =
      ⊎_elim
      (λ k. let a = after_in g es K 0 u k in
      let s = summary_in u k (omega (arith, a, l, run_low g es K (after g es K 0 u) us)) in
      let r = run_from_tick (after g es K 0 u) us in
      let w = cond-true (K u) (duration g u) 0 k in
      (omega (arith, s, ih, w, r, a, l), omega (arith, s, ih, r, a, l)))
      (λ k. let a = after_out g es K 0 u k in
      let s = summary_out u k in
      let r = run_from_tick (after g es K 0 u) us in
      let w = cond-false (K u) (duration g u) 0 k in
      (omega (arith, s, ih, w, r, a, l), omega (arith, s, ih, r, a, l)))
      (cases_Bool (K u))

  numbers : (us : List ℕ) → run_from g es K 0 us ≤ 4_000_000_000 → Numbers us
  unfolding Numbers
  numbers [] l = (refl, refl)
  numbers (u ∷ us) l = join_numbers u us l (numbers us (omega (arith, l, run_from_tick (after g es K 0 u) us)))

  summarised : (us : List ℕ) → run_from g es K 0 us ≤ 4_000_000_000 → Summarised g es K us
  unfolding Numbers
  summarised us l =
      let n = numbers us l in
      record { work = n.0; finish = n.1; from = λ t. omega (arith, run_from_tick t us, n) }

pub runs_are_joined_summaries_lem : RunsAreJoinedSummaries
runs_are_joined_summaries_lem g es K us l = summarised g es K us l
