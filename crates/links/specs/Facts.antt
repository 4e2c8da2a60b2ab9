-- What every link keeps to, whatever it is. Assumes nothing.
use Rattle.std.specs.Prelude.{◌≡◌, ℕ, ◌<◌, ◌≤◌, Some, None, Option}

-- A meaning gives for each amount of words a delay in ticks, or None where so many are not carried.
pub record Facts (meaning : ℕ → Option ℕ) : Type 0 where
  pub in_time : (words ticks : ℕ) → meaning words ≡ Some ticks → ticks ≤ 1000000
  pub in_size : (words : ℕ) → 65535 < words → meaning words ≡ None
