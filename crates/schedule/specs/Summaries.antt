-- A run is what the joined run summaries of its tasks say, so a segment tree whose leaves are the tasks in running order keeps it.
use Rattle.std.specs.Prelude.{◌≡◌, ℕ, ◌+◌, ◌≤◌, max, if◌then◌else◌, List, [], ◌∷◌, map}
use Rattle.segment_tree.specs.RunSummaries.{no_run, run_read, run_summaries}
use Rattle.segment_tree.specs.Tree.{total}
use Rattle.segment_tree.specs.declared.runs.RunSummary.{RunSummary}
use Rattle.schedule.specs.Graph.{Graph, duration}
use Rattle.schedule.specs.Bounds.{Set, bound, run_from}

-- the summary of task u alone, from its bound on; the blank if it is not in K
abbrev pub summary : Graph → List ℕ → Set → ℕ → RunSummary
summary g es K u = if K u then run_read (record { work = duration g u; finish = bound es u + duration g u }) else no_run

-- the summaries of us, joined in their order
abbrev pub summed : Graph → List ℕ → Set → List ℕ → RunSummary
summed g es K us = total run_summaries (map (summary g es K) us)

-- the durations of those of us that are in K, added up
abbrev pub work_of : Graph → Set → List ℕ → ℕ
work_of g K [] = 0
work_of g K (u ∷ us) = (if K u then duration g u else 0) + work_of g K us

-- A run from tick t on is the greater of t + work and finish.
pub record Summarised (g : Graph) (es : List ℕ) (K : Set) (us : List ℕ) : Type 0 where
  pub work : (summed g es K us).work ≡ work_of g K us
  pub finish : (summed g es K us).finish ≡ run_from g es K 0 us
  pub from : (t : ℕ) → run_from g es K t us ≡ max (t + (summed g es K us).work) (summed g es K us).finish

-- As long as a run from 0 does not pass 4,000,000,000, where summaries stop.
abbrev pub RunsAreJoinedSummaries : Type 0
RunsAreJoinedSummaries =
    (g : Graph) (es : List ℕ) (K : Set) (us : List ℕ) → run_from g es K 0 us ≤ 4_000_000_000 → Summarised g es K us
