-- What the sample links are, and what they answer. Assumes nothing.
use Rattle.std.specs.Prelude.{◌≡◌, ℕ, List, [], ◌∷◌, Option, map, sum}
use Rattle.links.specs.Meaning.{rate_delay, header_delay, packet_delay, relay_delay}
use Rattle.links.specs.Steps.{kept, table_delay, new_step}
use Rattle.links.specs.declared.steps.Step.{Step}
use Rattle.links.specs.declared.steps.StepTable.{StepTable}
use Rattle.links.specs.declared.rate.RateLink.{RateLink}
use Rattle.delays.specs.declared.samples.Sample.{Sample}
use Rattle.delays.specs.declared.samples.Sample.TheVariants.{Rate, Steps, HeaderOnPackets, PacketsOnHeader, Relay}
use Rattle.delays.specs.declared.samples.Samples.{Samples}
use Rattle.delays.specs.Sample.{sample_delay}

-- What the links mean, one after the other.
abbrev pub meanings_of : Samples → List (ℕ → Option ℕ)
meanings_of s = map (λ link. sample_delay link.below) s.links

abbrev pub asked_of : Samples → ℕ
asked_of s = sum (map (λ link. link.asked) s.links)

-- 5 ticks from 1 word on, 40 from 100 and 900 from 10,000.
abbrev pub sample_steps : List Step
sample_steps = new_step 1 5 ∷ new_step 100 40 ∷ new_step 10000 900 ∷ []

abbrev pub sample_rate : RateLink
sample_rate = record { startup = 2; per_word = 1 }

-- The links: 2 ticks and 1 a word, the table, a header of 8 words, packets of 10, and 3 hops.
abbrev pub sample_links : StepTable → List Sample
sample_links table =
    Rate sample_rate
    ∷ Steps table
    ∷ HeaderOnPackets (record { below = record { below = sample_rate; size = 10 }; words = 8 })
    ∷ PacketsOnHeader (record { below = record { below = sample_rate; words = 8 }; size = 10 })
    ∷ Relay (record { below = sample_rate; hops = 3 })
    ∷ []

-- The samples are these links, none asked yet, and mean what is said here.
pub record Sampled (s : Samples) : Type 0 where
  pub table : StepTable
  pub steps : kept table ≡ sample_steps
  pub links : s.links ≡ map (λ link. record { below = link; asked = 0 }) (sample_links table)
  pub meanings : meanings_of s ≡ rate_delay 2 1 ∷ table_delay table ∷ header_delay (packet_delay (rate_delay 2 1) 10) 8 ∷ packet_delay (header_delay (rate_delay 2 1) 8) 10 ∷ relay_delay (rate_delay 2 1) 3 ∷ []
