-- `padded` gives the words of the least number of whole packets, and no other number does. Assumes nothing.
use Rattle.std.proofs.Common.{◌≡◌, ℕ, ◌+◌, ◌-◌, ◌*◌, ◌/◌, ◌%◌, ◌<◌, ◌≤◌, eqb, sym, refl, ap, ◌∙◌, subst, ⊎_elim, mul-le-mul_right, add-mul, div-add-mod', mod-lt, arith}
use Rattle.std.proofs.Math.Nat.{mod_self, mod-eq_of_lt, sub-zero}
use Rattle.std.proofs.lemmas.Bool.{cases_lt, cond-false, cond_both, eqb-true, eqb-false, ne_eqb}
use Rattle.std.specs.Int.{next_multiple_of}
use Rattle.links.specs.Padding.{LeastMultiple, Padded, packets, padded}

-- What the library calls the next multiple are the words of all packets, less than one packet above those of the message.
next_is_near : (size words : ℕ) → 0 < size → (next_multiple_of words size ≡ packets size words * size) × (next_multiple_of words size < words + size)
next_is_near size words some =
    let split = div-add-mod' words size in
    let rest = mod-lt words some in
    ⊎_elim
    (λ (left : 0 < words % size).
    let gap : (size - words % size) % size ≡ size - words % size = mod-eq_of_lt (omega arith) in
    let one_more : packets size words ≡ words / size + 1 = omega arith in
    (omega (arith, ap (λ m. m * size) one_more, add-mul (words / size) 1 size), omega arith))
    (λ (none : words % size ≤ 0).
    let zero : words % size ≡ 0 = omega arith in
    let gap : (size - words % size) % size ≡ 0 = ap (λ r. (size - r) % size) zero ∙ ap (λ n. n % size) (sub-zero size) ∙ mod_self size in
    let full : packets size words ≡ words / size = omega arith in
    (omega (arith, ap (λ m. m * size) full), omega arith))
    (cases_lt 0 (words % size))

-- So the words sent are a number of whole packets.
pub padded_packets : (size words : ℕ) → 0 < size → padded size words ≡ packets size words * size
padded_packets size words some =
    cond-false (eqb size 0) words (next_multiple_of words size) (ne_eqb size 0 (λ e. omega (arith, some, e))) ∙ (next_is_near size words some).0

-- A multiple less than a packet above the words is the least that holds them.
near_is_least : (size words n j k : ℕ) → n ≡ j * size → n < words + size → words ≤ k * size → n ≤ k * size
near_is_least size words n j k is near reach =
    ⊎_elim
    (λ (few : k < j). let more : k + 1 ≤ j = omega arith in absurd (omega (arith, mul-le-mul_right size more, add-mul k 1 size)))
    (λ (all : j ≤ k). omega (arith, mul-le-mul_right size all))
    (cases_lt k j)

least_packets : (size words : ℕ) → 0 < size → LeastMultiple size words (next_multiple_of words size)
least_packets size words some =
    let found = next_is_near size words some in
    record { multiple = (packets size words, found.0); enough = omega arith; least = λ k. near_is_least size words (next_multiple_of words size) (packets size words) k found.0 found.1 }

pub padded_least : (size words : ℕ) → Padded size words (padded size words)
padded_least size words =
    cond_both (eqb size 0) words (next_multiple_of words size) (Padded size words)
    (λ e. record { as_it_is = λ _. refl; whole = λ some. let none : size ≡ 0 = eqb-true size 0 e in absurd (omega arith) })
    (λ e. record { as_it_is = λ none. absurd (eqb-false size 0 e none); whole = least_packets size words })

pub least_padded : (size words n : ℕ) → n ≡ padded size words → Padded size words n
least_padded size words n is = subst (Padded size words) (sym is) (padded_least size words)

-- Two least multiples are one number.
same_least : (size words m n : ℕ) → LeastMultiple size words m → LeastMultiple size words n → m ≡ n
same_least size words m n a b =
    let j = b.multiple.0 in
    let k = a.multiple.0 in
    let m-upto = a.least j (omega (arith, b.multiple.1, b.enough)) in
    let n-upto = b.least k (omega (arith, a.multiple.1, a.enough)) in
    omega (arith, a.multiple.1, b.multiple.1)

pub padded_only : (size words n : ℕ) → Padded size words n → n ≡ padded size words
padded_only size words n is =
    let own = padded_least size words in
    ⊎_elim
    (λ (some : 0 < size). same_least size words n (padded size words) (is.whole some) (own.whole some))
    (λ (none : size ≤ 0). let zero : size ≡ 0 = omega arith in omega (arith, is.as_it_is zero, own.as_it_is zero))
    (cases_lt 0 size)
