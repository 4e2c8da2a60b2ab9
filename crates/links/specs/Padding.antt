-- How many words a message fills that is sent in whole packets. Assumes nothing.
use Rattle.std.specs.Prelude.{◌≡◌, ℕ, ◌+◌, ◌*◌, ◌/◌, ◌%◌, ◌<◌, ◌≤◌, min, if◌then◌else◌, ◌==◌}
use Rattle.std.specs.Int.{next_multiple_of}

-- `n` is the least multiple of `size` that is not less than `words`.
pub record LeastMultiple (size words n : ℕ) : Type 0 where
  pub multiple : (k : ℕ) × (n ≡ k * size)
  pub enough : words ≤ n
  pub least : (k : ℕ) → words ≤ k * size → n ≤ k * size

-- `n` words are sent for `words`: whole packets of `size`, or the words themselves where the size is 0.
pub record Padded (size words n : ℕ) : Type 0 where
  pub as_it_is : size ≡ 0 → n ≡ words
  pub whole : 0 < size → LeastMultiple size words n

-- How many packets hold the words: the full ones, and one more where a part is left over.
abbrev pub packets : ℕ → ℕ → ℕ
packets size words = words / size + min 1 (words % size)

-- The words sent, as a number.
abbrev pub padded : ℕ → ℕ → ℕ
padded size words = if size == 0 then words else next_multiple_of words size
