-- Checks in rising number answer the lowest number that is due. Assumes nothing.
use Rattle.std.proofs.Common.{◌≡◌, suc, ◌≤◌, true, false, List, [], ◌∷◌, Ok, Err, Result, refl, arith}
use Rattle.std.proofs.lemmas.Bool.{both_ways}
use Rattle.std.proofs.lemmas.List.Elements.{All-nil, All-cons, Contains-get_or, Contains-append_right}
use Rattle.std.specs.List.{All}
use Rattle.refusal.specs.declared.Refusal.{Refusal}
use Rattle.refusal.specs.Checks.{Check, checked, Answers, Rising}
use Rattle.refusal.specs.Meaning.{meaning_of}

abbrev NotDue : Check → Type 0
NotDue check = check.0 ≡ false

abbrev NotLower : Refusal → Check → Type 0
NotLower refusal check = check.0 ≡ true → (meaning_of refusal).number ≤ (meaning_of check.1).number

-- A check that does not hold, put before others, leaves their answer.
passed : {A : Type 0} (refusal : Refusal) (rest : List Check) (ok : A) (answer : Result A Refusal) → Answers rest ok answer → Answers ((false, refusal) ∷ rest) ok answer
passed refusal rest ok (Ok x) (none, is) = (All-cons NotDue (false, refusal) rest refl none, is)
passed refusal rest ok (Err r) (has, least) =
    (Contains-append_right ((false, refusal) ∷ []) rest (true, r) has, All-cons (NotLower r) (false, refusal) rest (λ due. absurd (both_ways false refl due)) least)

pub Answers-checked : {A : Type 0} (checks : List Check) (ok : A) → Rising checks → Answers checks ok (checked checks ok)
Answers-checked [] ok rising = (All-nil NotDue, refl)
Answers-checked ((true, refusal) ∷ rest) ok rising =
    let later : All (NotLower refusal) rest = λ k d within _. omega (arith, rising 0 (suc k) d (omega arith) (omega arith)) in
    (Contains-get_or ((true, refusal) ∷ rest) 0 (true, refusal) (omega arith), All-cons (NotLower refusal) (true, refusal) rest (λ _. omega arith) later)
Answers-checked ((false, refusal) ∷ rest) ok rising =
    let after : Rising rest = λ i j d before within. rising (suc i) (suc j) d (omega arith) (omega arith) in
    passed refusal rest ok (checked rest ok) (Answers-checked rest ok after)
