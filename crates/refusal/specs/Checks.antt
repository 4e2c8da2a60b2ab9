-- How a call with several checks answers. Assumes nothing.
use Rattle.std.specs.Prelude.{◌≡◌, ◌<◌, ◌≤◌, Bool, true, false, if◌then◌else◌, List, [], ◌∷◌, Ok, Err, Result}
use Rattle.std.specs.List.{All, AllPairs, Contains}
use Rattle.refusal.specs.declared.Refusal.{Refusal}
use Rattle.refusal.specs.Meaning.{meaning_of}

-- A check is a condition, with the refusal that is due where the condition holds.
abbrev pub Check : Type 0
Check = Bool × Refusal

-- Checks run in their order and the first whose condition holds is answered. Where none holds, the call answers `ok`.
abbrev pub checked : {A : Type 0} → List Check → A → Result A Refusal
checked [] ok = Ok ok
checked (check ∷ rest) ok = if check.0 then Err check.1 else checked rest ok

-- The law above that: `answer` is a refusal whose condition holds, of the lowest number among those, and `ok` only where no condition holds.
abbrev pub Answers : {A : Type 0} → List Check → A → Result A Refusal → Type 0
Answers checks ok (Ok answer) = All (λ check. check.0 ≡ false) checks × (answer ≡ ok)
Answers checks ok (Err refusal) =
    Contains checks (true, refusal) × All (λ check. check.0 ≡ true → (meaning_of refusal).number ≤ (meaning_of check.1).number) checks

-- The checks stand in rising number.
abbrev pub Rising : List Check → Type 0
Rising = AllPairs (λ earlier later. (meaning_of earlier.1).number < (meaning_of later.1).number)
