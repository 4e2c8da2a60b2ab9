-- Two records are equal where their numbers are, since a bound has one proof at most.
use mathlib.Core.HLevel.{is_prop→PathP}
use Rattle.std.specs.Prelude.{◌≡◌, ◌≤◌}
use Rattle.std.proofs.Math.Bridge.{le_prop}
use Rattle.segment_tree.specs.declared.arrivals.ArrivalRow.{ArrivalRow}
use Rattle.segment_tree.specs.declared.arrivals.BestArrival.{BestArrival}
use Rattle.segment_tree.specs.declared.runs.RunRow.{RunRow}
use Rattle.segment_tree.specs.declared.runs.RunSummary.{RunSummary}

pub same_run : (x y : RunSummary) → x.work ≡ y.work → x.finish ≡ y.finish → x ≡ y
same_run x y w f = λ i. record {
  work = w i;
  finish = f i;
  ordered = is_prop→PathP (λ j. w j ≤ f j) (λ j. le_prop) x.ordered y.ordered i;
  bounded = is_prop→PathP (λ j. f j ≤ 4_000_000_000) (λ j. le_prop) x.bounded y.bounded i;
}

pub same_arrival : (x y : BestArrival) → x.arrival ≡ y.arrival → x.task ≡ y.task → x ≡ y
same_arrival x y a t = λ i. record {
  arrival = a i;
  task = t i;
  bounded = is_prop→PathP (λ j. t j ≤ 4_294_967_295) (λ j. le_prop) x.bounded y.bounded i;
}

pub same_run_row : (x y : RunRow) → x.work ≡ y.work → x.finish ≡ y.finish → x ≡ y
same_run_row x y w f = λ i. record { work = w i; finish = f i }

pub same_arrival_row : (x y : ArrivalRow) → x.arrival ≡ y.arrival → x.task ≡ y.task → x ≡ y
same_arrival_row x y a t = λ i. record { arrival = a i; task = t i }
