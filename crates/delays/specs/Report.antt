-- What the program says of a delay. Assumes nothing.
use Rattle.std.specs.Prelude.{ℕ, List, [], ◌∷◌, ◌++◌, Some, None, codes, decimal, Option, map}
use Rattle.delays.specs.declared.report.Delay.{Delay}
use Rattle.delays.specs.declared.report.Delays.{Delays}

abbrev pub delay_text : Option ℕ → List ℕ
delay_text None = codes "not carried"
delay_text (Some ticks) = decimal ticks

-- The delays of `words` words on links of these meanings.
abbrev pub delays_by : List (ℕ → Option ℕ) → ℕ → List Delay
delays_by meanings words = map (λ meaning. record { ticks = meaning words }) meanings

-- Each delay behind its name.
abbrev pub named_text : List (List ℕ) → List Delay → List ℕ
named_text [] _ = []
named_text (_ ∷ _) [] = []
named_text (name ∷ names) (delay ∷ delays) = name ++ (delay_text delay.ticks ++ named_text names delays)

abbrev pub delays_text : Delays → List ℕ
delays_text d = named_text (codes "rate " ∷ codes "; steps " ∷ codes "; header on packets " ∷ codes "; packets on header " ∷ codes "; relay " ∷ []) d.each
