-- What each link means: for each amount of words its delay in ticks, or None where so many are not carried. Assumes nothing.
use Rattle.std.specs.Prelude.{ℕ, ◌+◌, ◌*◌, if◌then◌else◌, Some, None, Option, nat_le}
use Rattle.std.specs.Option.{option_map}
use Rattle.links.specs.Padding.{padded}

-- A link carries at most 65,535 words: `delay` at so many, and nothing above.
abbrev pub within_size : ℕ → Option ℕ → Option ℕ
within_size words delay = if nat_le words 65535 then delay else None

-- No message takes more than 1,000,000 ticks: one that would is not carried.
abbrev pub within_time : Option ℕ → Option ℕ
within_time None = None
within_time (Some ticks) = if nat_le ticks 1000000 then Some ticks else None

-- `startup` ticks to start, and `per-word` for each word.
abbrev pub rate_delay : ℕ → ℕ → ℕ → Option ℕ
rate_delay startup per-word words = within_size words (within_time (Some (startup + per-word * words)))

-- The layers, over the meaning `below` of any link.

-- `header` words go before each message.
abbrev pub header_delay : (ℕ → Option ℕ) → ℕ → ℕ → Option ℕ
header_delay below header words = below (words + header)

-- Each message goes in whole packets of `size` words.
abbrev pub packet_delay : (ℕ → Option ℕ) → ℕ → ℕ → Option ℕ
packet_delay below size words = below (padded size words)

-- Each message is sent `hops` times, one after the other.
abbrev pub relay_delay : (ℕ → Option ℕ) → ℕ → ℕ → Option ℕ
relay_delay below hops words = within_time (option_map (λ ticks. hops * ticks) (below words))
