-- The kind of best arrivals. Assumes nothing.
use Rattle.std.specs.Prelude.{◌≡◌, ◌≤◌, Bool, if◌then◌else◌, ◌&&◌, ◌||◌, ◌⊎◌, ◌==◌, nat_le, nat_lt}
use Rattle.std.proofs.Common.{arith}
use Rattle.std.proofs.lemmas.Bool.Decides.{nat_tests}
use Rattle.segment_tree.specs.Kind.{Kind}
use Rattle.segment_tree.specs.declared.arrivals.ArrivalRow.{ArrivalRow}
use Rattle.segment_tree.specs.declared.arrivals.BestArrival.{BestArrival}

abbrev pub no_arrival : BestArrival
no_arrival = record { arrival = 0; task = 4_294_967_295; bounded = omega arith }

-- Whether y wins over x: its arrival is greater, or it is equal and its task has the lower number.
abbrev pub wins : BestArrival → BestArrival → Bool
wins y x = nat_lt x.arrival y.arrival || (x.arrival == y.arrival && nat_lt y.task x.task)

abbrev pub best_joined : BestArrival → BestArrival → BestArrival
best_joined x y = if wins y x then y else x

-- The winner is one of the two, its arrival is not below either, and of those with that arrival its task is the lowest.
pub record Winner (x y winner : BestArrival) : Type 0 where
  pub one : (winner ≡ x) ⊎ (winner ≡ y)
  pub greatest : (x.arrival ≤ winner.arrival) × (y.arrival ≤ winner.arrival)
  pub lowest : (x.arrival ≡ winner.arrival → winner.task ≤ x.task) × (y.arrival ≡ winner.arrival → winner.task ≤ y.task)

abbrev pub best_written : BestArrival → ArrivalRow
best_written x = record { arrival = x.arrival; task = x.task }

pub read_in_range : (row : ArrivalRow) → (if nat_le row.task 4_294_967_295 then row.task else 4_294_967_295) ≤ 4_294_967_295
read_in_range row = grind (arith, nat_tests)

-- Every row of 32-bit numbers makes a best arrival.
abbrev pub best_read : ArrivalRow → BestArrival
best_read row = record {
  arrival = if nat_le row.task 4_294_967_295 then row.arrival else 0;
  task = if nat_le row.task 4_294_967_295 then row.task else 4_294_967_295;
  bounded = read_in_range row;
}

abbrev pub best_arrivals : Kind BestArrival ArrivalRow
best_arrivals = record { blank = no_arrival; joined = best_joined; written = best_written; read = best_read }
