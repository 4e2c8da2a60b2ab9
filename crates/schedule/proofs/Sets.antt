-- Sets of tasks: one task more, sets within sets, which arcs enter a set, and how many tasks a set has.
use Rattle.std.proofs.Common.{◌≡◌, ℕ, zero, suc, ◌+◌, ◌<◌, ◌≤◌, Bool, true, false, cond, not, ◌||◌, eqb, ◌⊎◌, sym, refl, ap, subst, inl, inr, ⊎_elim, arith}
use Rattle.std.proofs.lemmas.Bool.{and_from, and_parts, cases_eq, cond_both, eq-eqb, eqb-false, eqb-true, ne_eqb, not_from_false, not-true, or_cases, or_from, or_left, or_parts, or_right}
use Rattle.schedule.specs.declared.Arc.{Arc}
use Rattle.schedule.specs.Bounds.{Set, enters, with}
use Rattle.schedule.specs.Growth.{none}

abbrev pub Within : Set → Set → Type 0
Within K L = (u : ℕ) → K u ≡ true → L u ≡ true

pub with_self : (K : Set) (v : ℕ) → with K v v ≡ true
with_self K v = or_left (eqb v v) (K v) (eq-eqb v v refl)

pub with_old : (K : Set) (v u : ℕ) → K u ≡ true → with K v u ≡ true
with_old K v u e = or_right (eqb u v) (K u) e

pub with_cases : (K : Set) (v u : ℕ) → with K v u ≡ true → (u ≡ v) ⊎ (K u ≡ true)
with_cases K v u e = ⊎_elim (λ f. inl (eqb-true u v f)) (λ f. inr f) (or_cases (eqb u v) (K u) e)

pub with_out : (K : Set) (v u : ℕ) → (u ≡ v → ⊥) → K u ≡ false → with K v u ≡ false
with_out K v u ne e = or_from (eqb u v) (K u) (ne_eqb u v ne) e

pub with_false : (K : Set) (v u : ℕ) → with K v u ≡ false → (u ≡ v → ⊥) × (K u ≡ false)
with_false K v u e = let p = or_parts (eqb u v) (K u) e in (eqb-false u v p.0, p.1)

pub with_rises : (K L : Set) (v : ℕ) → Within K L → Within (with K v) (with L v)
with_rises K L v w u e =
    ⊎_elim (λ f. subst (λ x. with L v x ≡ true) (sym f) (with_self L v)) (λ f. with_old L v u (w u f)) (with_cases K v u e)

pub enters_from : (K : Set) (a : Arc) → K a.second ≡ true → K a.first ≡ false → enters K a ≡ true
enters_from K a e f = and_from (K a.second) (not (K a.first)) e (not_from_false (K a.first) f)

pub enters_parts : (K : Set) (a : Arc) → enters K a ≡ true → (K a.second ≡ true) × (K a.first ≡ false)
enters_parts K a e = let p = and_parts (K a.second) (not (K a.first)) e in (p.0, not-true (K a.first) p.1)

abbrev bit : Bool → ℕ
bit b = cond b 1 0

-- how many of the tasks below n are in K; the library counts in lists
abbrev pub tally : Set → ℕ → ℕ
tally K zero = 0
tally K (suc n) = bit (K n) + tally K n

pub tally_most : (K : Set) (n : ℕ) → tally K n ≤ n
tally_most K zero = omega arith
tally_most K (suc n) = omega (arith, tally_most K n, cond_both (K n) 1 0 (λ x. x ≤ 1) (λ _. omega arith) (λ _. omega arith))

pub tally_none : (n : ℕ) → tally none n ≡ 0
tally_none zero = refl
tally_none (suc n) = omega (arith, tally_none n)

tally_past : (K : Set) (x n : ℕ) → n ≤ x → tally (with K x) n ≡ tally K n
tally_past K x zero h = refl
tally_past K x (suc n) h =
    let e = ap (λ b. bit (b || K n)) (ne_eqb n x (λ p. omega (arith, p, h))) in
    omega (arith, tally_past K x n (omega (arith, h)), e)

pub tally-with : (K : Set) (x n : ℕ) → x < n → K x ≡ false → tally (with K x) n ≡ suc (tally K n)
tally-with K x zero h e = absurd (omega arith)
tally-with K x (suc n) h e =
    ⊎_elim
    (λ p. omega (
      arith,
      tally_past K x n (omega (arith, p)),
      ap bit (subst (λ y. with K x y ≡ true) (sym p) (with_self K x)),
      ap bit (subst (λ y. K y ≡ false) (sym p) e),
    ))
    (λ ne. omega (arith, tally-with K x n (omega (arith, ne, h)) e, ap (λ b. bit (b || K n)) (ne_eqb n x ne)))
    (cases_eq n x)
