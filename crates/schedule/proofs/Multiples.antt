-- A multiple of the greater of two numbers is at most what both multiples are at most. The library's `max-le` has no factor.
use Rattle.std.proofs.Common.{ℕ, ◌*◌, ◌≤◌, max, sym, subst, ⊎_elim, arith}
use Rattle.std.proofs.Math.Nat.{max-eq_left, max-eq_right}
use Rattle.std.proofs.lemmas.Bool.{cases_lt}

pub mul-max : (c a b m : ℕ) → c * a ≤ m → c * b ≤ m → c * max a b ≤ m
mul-max c a b m h k =
    ⊎_elim
    (λ l. subst (λ x. c * x ≤ m) (sym (max-eq_right {n = a} {m = b} (omega arith))) k)
    (λ l. subst (λ x. c * x ≤ m) (sym (max-eq_left {n = a} {m = b} l)) h)
    (cases_lt a b)
