-- The number and the value tell a refusal. So where code is generic over `PartialEq`, `==` of refusals decides equality there too.
use Rattle.std.proofs.Common.{◌≡◌, ◌↔◌, true, arith}
use Rattle.std.proofs.lemmas.Bool.Decides.{nat_tests}
use Rattle.refusal.specs.declared.Refusal.{Refusal}
use Rattle.refusal.specs.Meaning.{same_refusal}

told_apart : (x y : Refusal) → same_refusal x y ≡ true → x ≡ y
told_apart x y same = grind (arith, nat_tests)

same_as_itself : (x y : Refusal) → x ≡ y → same_refusal x y ≡ true
same_as_itself x y is = grind (arith, nat_tests)

pub same_refusal_decides : (x y : Refusal) → (same_refusal x y ≡ true) ↔ (x ≡ y)
same_refusal_decides x y = (told_apart x y, same_as_itself x y)
