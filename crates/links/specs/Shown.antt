-- Each meaning keeps to the facts of a link. Assumes nothing.
use Rattle.std.specs.Prelude.{◌≡◌, ℕ, ◌+◌, ◌*◌, ◌/◌, ◌%◌, ◌<◌, ◌≤◌, min, Some, None, Option}
use Rattle.std.proofs.Common.{ap, ⊎_elim, div-add-mod', mod-lt, add-mul, arith}
use Rattle.std.proofs.lemmas.Bool.{cases_lt}
use Rattle.std.proofs.lemmas.Bool.Decides.{nat_tests}
use Rattle.std.specs.Option.{option_map}
use Rattle.links.specs.Facts.{Facts}
use Rattle.links.specs.Meaning.{within_size, within_time, rate_delay, header_delay, packet_delay, relay_delay}
use Rattle.links.specs.Padding.{packets, padded}

pub within_time_bounded : (delay : Option ℕ) (ticks : ℕ) → within_time delay ≡ Some ticks → ticks ≤ 1000000
within_time_bounded None ticks is = grind (arith, nat_tests)
within_time_bounded (Some t) ticks is = grind (arith, nat_tests)

-- Whatever the delays are, cut to the two limits they are a link's.
pub limited_facts : (delays : ℕ → Option ℕ) → Facts (λ words. within_size words (within_time (delays words)))
limited_facts delays = record {
  in_time = λ words ticks is. grind (arith, nat_tests, within_time_bounded (delays words) ticks);
  in_size = λ words above. grind (arith, nat_tests);
}

pub rate_facts : (startup per-word : ℕ) → Facts (rate_delay startup per-word)
rate_facts startup per-word = limited_facts (λ words. Some (startup + per-word * words))

pub header_facts : (below : ℕ → Option ℕ) (header : ℕ) → Facts below → Facts (header_delay below header)
header_facts below header facts = record {
  in_time = λ words ticks is. facts.in_time (words + header) ticks is;
  in_size = λ words above. facts.in_size (words + header) (omega arith);
}

-- Whole packets hold all the words.
pub enough : (size words : ℕ) → 0 < size → words ≤ packets size words * size
enough size words some =
    let split = div-add-mod' words size in
    let rest = mod-lt words some in
    let parts = add-mul (words / size) (min 1 (words % size)) size in
    ⊎_elim
    (λ (left : 0 < words % size). let one : min 1 (words % size) ≡ 1 = omega arith in omega (arith, ap (λ m. m * size) one))
    (λ (none : words % size ≤ 0). omega arith)
    (cases_lt 0 (words % size))

pub padded_enough : (size words : ℕ) → words ≤ padded size words
padded_enough size words = grind (arith, nat_tests)

pub packet_facts : (below : ℕ → Option ℕ) (size : ℕ) → Facts below → Facts (packet_delay below size)
packet_facts below size facts = record {
  in_time = λ words ticks is. facts.in_time (padded size words) ticks is;
  in_size = λ words above. facts.in_size (padded size words) (omega (arith, padded_enough size words));
}

pub relay_facts : (below : ℕ → Option ℕ) (hops : ℕ) → Facts below → Facts (relay_delay below hops)
relay_facts below hops facts = record {
  in_time = λ words ticks is. within_time_bounded (option_map (λ t. hops * t) (below words)) ticks is;
  in_size = λ words above. ap (λ o. within_time (option_map (λ t. hops * t) o)) (facts.in_size words above);
}
