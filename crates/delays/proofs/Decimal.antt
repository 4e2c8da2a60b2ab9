-- A numeral is text. Assumes nothing.
use Rattle.std.proofs.Common.{ℕ, List, IsUtf8}
use Rattle.std.proofs.lemmas.Fmt.{IsAscii-from_digits}
use Rattle.std.proofs.lemmas.Str.{IsUtf8-from_ascii}
use Rattle.std.specs.Str.Parse.{IsNumeral}

pub numeral_utf8 : (bs : List ℕ) → IsNumeral 10 bs → IsUtf8 bs
numeral_utf8 bs numeral = IsUtf8-from_ascii bs (IsAscii-from_digits bs numeral.1)
