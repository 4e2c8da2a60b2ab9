-- What a sample link of each kind means, and that it keeps to the facts of a link. Assumes nothing.
use Rattle.std.specs.Prelude.{ℕ, Option}
use Rattle.links.specs.Facts.{Facts}
use Rattle.links.specs.Meaning.{rate_delay, header_delay, packet_delay, relay_delay}
use Rattle.links.specs.Steps.{kept, last_reached, table_delay}
use Rattle.links.specs.Shown.{rate_facts, limited_facts, header_facts, packet_facts, relay_facts}
use Rattle.links.specs.declared.rate.RateLink.{RateLink}
use Rattle.delays.specs.declared.samples.Sample.{Sample}
use Rattle.delays.specs.declared.samples.Sample.TheVariants.{Rate, Steps, HeaderOnPackets, PacketsOnHeader, Relay}

abbrev pub rate_of : RateLink → ℕ → Option ℕ
rate_of link = rate_delay link.startup link.per_word

abbrev pub sample_delay : Sample → ℕ → Option ℕ
sample_delay (Rate link) = rate_of link
sample_delay (Steps table) = table_delay table
sample_delay (HeaderOnPackets link) = header_delay (packet_delay (rate_of link.below.below) link.below.size) link.words
sample_delay (PacketsOnHeader link) = packet_delay (header_delay (rate_of link.below.below) link.below.words) link.size
sample_delay (Relay link) = relay_delay (rate_of link.below) link.hops

rate_keeps : (link : RateLink) → Facts (rate_of link)
rate_keeps link = rate_facts link.startup link.per_word

pub sample_facts : (s : Sample) → Facts (sample_delay s)
sample_facts (Rate link) = rate_keeps link
sample_facts (Steps table) = limited_facts (λ words. last_reached words (kept table))
sample_facts (HeaderOnPackets link) = header_facts _ link.words (packet_facts _ link.below.size (rate_keeps link.below.below))
sample_facts (PacketsOnHeader link) = packet_facts _ link.size (header_facts _ link.below.words (rate_keeps link.below.below))
sample_facts (Relay link) = relay_facts _ link.hops (rate_keeps link.below)
