-- The kind of run summaries. Assumes nothing.
use Rattle.std.specs.Prelude.{◌≡◌, ℕ, ◌+◌, ◌≤◌, min, max, Bool, true, false, if◌then◌else◌, ◌&&◌, nat_le, refl}
use Rattle.std.proofs.Common.{arith}
use Rattle.std.proofs.lemmas.Bool.Decides.{nat_tests}
use Rattle.segment_tree.specs.Kind.{Kind}
use Rattle.segment_tree.specs.declared.runs.RunRow.{RunRow}
use Rattle.segment_tree.specs.declared.runs.RunSummary.{RunSummary}

abbrev pub no_run : RunSummary
no_run = record { work = 0; finish = 0; ordered = omega arith; bounded = omega arith }

-- A sum past 4,000,000,000 stays there.
abbrev pub capped : ℕ → ℕ
capped n = min n 4_000_000_000

pub joined_in_order : (w f v g : ℕ) → w ≤ f → capped (w + v) ≤ capped (max (f + v) g)
joined_in_order w f v g h = omega (arith, h)

-- The works add up. Both runs have finished once the right work is done after the left finish, and not before the right finish.
abbrev pub run_joined : RunSummary → RunSummary → RunSummary
run_joined x y = record {
  work = capped (x.work + y.work);
  finish = capped (max (x.finish + y.work) y.finish);
  ordered = joined_in_order x.work x.finish y.work y.finish x.ordered;
  bounded = omega arith;
}

-- When a run has ended whose processor is free from tick t on: after all its work, and not before its finish.
abbrev pub ended : RunSummary → ℕ → ℕ
ended x t = capped (max (t + x.work) x.finish)

-- A join is one run after the other: the right one begins where the left one has ended.
abbrev pub InTurn : RunSummary → RunSummary → RunSummary → Type 0
InTurn x y both = (t : ℕ) → ended both t ≡ ended y (ended x t)

pub in_turn : (x y : RunSummary) → InTurn x y (run_joined x y)
in_turn x y t = omega arith

abbrev pub run_written : RunSummary → RunRow
run_written x = record { work = x.work; finish = x.finish }

-- Whether a work and a finish make a run summary.
abbrev pub makes_run : ℕ → ℕ → Bool
makes_run work finish = nat_le work finish && nat_le finish 4_000_000_000

pub read_ordered : (b : Bool) (w f : ℕ) → (b ≡ true → w ≤ f) → (if b then w else 0) ≤ (if b then f else 0)
read_ordered true w f h = h refl
read_ordered false w f h = omega arith

pub row_ordered : (row : RunRow) → (if makes_run row.work row.finish then row.work else 0) ≤ (if makes_run row.work row.finish then row.finish else 0)
row_ordered row = read_ordered (makes_run row.work row.finish) row.work row.finish (λ made. grind (arith, nat_tests, made))

pub read_bounded : (row : RunRow) → (if makes_run row.work row.finish then row.finish else 0) ≤ 4_000_000_000
read_bounded row = grind (arith, nat_tests)

-- Numbers that make no run summary read as the blank.
abbrev pub run_read : RunRow → RunSummary
run_read row = record {
  work = if makes_run row.work row.finish then row.work else 0;
  finish = if makes_run row.work row.finish then row.finish else 0;
  ordered = row_ordered row;
  bounded = read_bounded row;
}

abbrev pub run_summaries : Kind RunSummary RunRow
run_summaries = record { blank = no_run; joined = run_joined; written = run_written; read = run_read }
