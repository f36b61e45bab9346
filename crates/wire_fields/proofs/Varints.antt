-- How long a number's spelling is, and how it goes on byte by byte.
use Rattle.std.proofs.Common.{◌≡◌, ℕ, zero, suc, ◌+◌, ◌*◌, ◌/◌, ◌%◌, ◌^◌, ◌<◌, ◌≤◌, [], ◌∷◌, length, refl, sym, ap, ◌∙◌, arith, inl, inr}
use Rattle.std.proofs.lemmas.Bool.{cases_lt, le-ltb, lt-ltb}
use Rattle.std.proofs.lemmas.Nat.{div_below, pow-add}
use Rattle.std.proofs.Math.Nat.{pow-suc, one-le-pow}
use Rattle.std.proofs.Math.Pow.{pow_mono}
use Rattle.wire_fields.specs.Spelling.{seven_bits_each, varint}

pub power : (i : ℕ) → 128 ^ i ≡ 2 ^ (7 * i)
power zero = refl
power (suc i) =
    let more : 7 * suc i ≡ 7 * i + 7 = omega arith in
    pow-suc 128 i ∙ ap (λ (x : ℕ). x * 128) (power i) ∙ sym (ap (λ (k : ℕ). 2 ^ k) more ∙ pow-add 2 (7 * i) 7)

-- a number below 128 is its own spelling
pub last_byte : (most number : ℕ) → number < 128 → seven_bits_each (suc most) number ≡ number ∷ []
unfolding seven_bits_each
last_byte most number lt = rw (lt-ltb number 128 lt) refl

-- a greater one has its seven lowest bits first
pub first_byte : (most number : ℕ) → 128 ≤ number → seven_bits_each (suc most) number ≡ (number % 128 + 128) ∷ seven_bits_each most (number / 128)
unfolding seven_bits_each
first_byte most number le = rw (le-ltb number 128 le) refl

length-seven_bits_each : (k most number : ℕ) → suc k ≤ most → number < 128 ^ suc k → (1 ≤ length (seven_bits_each most number)) × (length (seven_bits_each most number) ≤ suc k)
length-seven_bits_each k zero number fits lt = absurd (omega arith)
length-seven_bits_each zero (suc most) number fits lt =
    rw (last_byte most number lt) (omega arith, omega arith)
length-seven_bits_each (suc k) (suc most) number fits lt =
    elim (cases_lt number 128) [
      | inl below ↦ rw (last_byte most number below) (omega arith, omega arith)
      | inr above ↦
          let power : 128 ^ suc (suc k) ≡ 128 ^ suc k * 128 = pow-suc 128 (suc k) in
          let less : number / 128 < 128 ^ suc k = div_below number 128 (128 ^ suc k) (omega arith) (omega (arith, power, lt)) in
          let shorter = length-seven_bits_each k most (number / 128) (omega arith) less in
          rw (first_byte most number above) (omega arith, omega (arith, shorter.1))
    ]

not_last : (next number : ℕ) → number / 128 < 128 ^ next → 128 ≤ number → 0 < next
not_last zero number less above = absurd (omega (arith, less))
not_last (suc next) number less above = omega arith

-- with one byte less to spell it in, the number without its seven lowest bits
pub one_more : (left next number : ℕ) → left ≡ suc next → 128 ≤ number → number < 128 ^ left
    → (0 < next) × (number / 128 < 128 ^ next) × (seven_bits_each left number ≡ (number % 128 + 128) ∷ seven_bits_each next (number / 128))
one_more left next number e above below =
    let below' : number < 128 ^ suc next = rw e at below in
    let power : 128 ^ suc next ≡ 128 ^ next * 128 = pow-suc 128 next in
    let less : number / 128 < 128 ^ next = div_below number 128 (128 ^ next) (omega arith) (omega (arith, power, below')) in
    (not_last next number less above, less, rw e (first_byte next number above))

-- the last byte
pub no_more : (left next number : ℕ) → left ≡ suc next → number < 128 → seven_bits_each left number ≡ number ∷ []
no_more left next number e lt = rw e (last_byte next number lt)

exact-seven_bits_each : (k most number : ℕ) → suc k ≤ most → 128 ^ k ≤ number → number < 128 ^ suc k → length (seven_bits_each most number) ≡ suc k
exact-seven_bits_each k zero number fits ge lt = absurd (omega arith)
exact-seven_bits_each zero (suc most) number fits ge lt = rw (last_byte most number lt) refl
exact-seven_bits_each (suc k) (suc most) number fits ge lt =
    let power : 128 ^ suc (suc k) ≡ 128 ^ suc k * 128 = pow-suc 128 (suc k) in
    let lower : 128 ^ suc k ≡ 128 ^ k * 128 = pow-suc 128 k in
    let some : 0 < 128 ^ k = one-le-pow k 128 (omega arith) in
    let above : 128 ≤ number = omega (arith, ge, lower, some) in
    let more : 128 ^ k ≤ number / 128 = omega (arith, ge, lower) in
    let less : number / 128 < 128 ^ suc k = div_below number 128 (128 ^ suc k) (omega arith) (omega (arith, power, lt)) in
    rw (first_byte most number above) (omega (arith, exact-seven_bits_each k most (number / 128) (omega arith) more less))

-- the length of a spelling, by the place of the highest bit
pub length-varint_bit : (bit number : ℕ) → bit < 64 → 2 ^ bit ≤ number → number < 2 * 2 ^ bit → length (varint number) ≡ bit / 7 + 1
unfolding varint
length-varint_bit bit number few ge lt =
    let k = bit / 7 in
    let low : 128 ^ k ≡ 2 ^ (7 * k) = power k in
    let high : 128 ^ suc k ≡ 2 ^ (7 * suc k) = power (suc k) in
    let below : 2 ^ (7 * k) ≤ 2 ^ bit = pow_mono (omega arith) in
    let above : 2 ^ suc bit ≤ 2 ^ (7 * suc k) = pow_mono (omega arith) in
    let twice : 2 ^ suc bit ≡ 2 ^ bit * 2 = pow-suc 2 bit in
    omega (arith, exact-seven_bits_each k 10 number (omega arith) (omega (arith, low, below, ge)) (omega (arith, high, above, twice, lt)))

-- a number below 128 ^ k is spelled in at most k bytes, k being 1 to 10
pub length-varint_below : (k number : ℕ) → k < 10 → number < 128 ^ suc k → length (varint number) ≤ suc k
unfolding varint
length-varint_below k number lt below = (length-seven_bits_each k 10 number (omega arith) below).1

-- a number below 128 is one byte
pub varint-small : (number : ℕ) → number < 128 → varint number ≡ number ∷ []
unfolding varint
varint-small number below = last_byte 9 number below

-- a number of two bytes, and one of five
pub varint_2 : (number : ℕ) → 128 ≤ number → number < 16384 → varint number ≡ (number % 128 + 128) ∷ (number / 128) ∷ []
unfolding varint
varint_2 number least most = rw (first_byte 9 number least, last_byte 8 (number / 128) (omega arith)) refl

pub varint_5 : (n : ℕ) → 268435456 ≤ n → n < 34359738368
    → varint n ≡ (n % 128 + 128) ∷ (n / 128 % 128 + 128) ∷ (n / 128 / 128 % 128 + 128) ∷ (n / 128 / 128 / 128 % 128 + 128) ∷ (n / 128 / 128 / 128 / 128) ∷ []
unfolding varint
varint_5 n least most =
    rw (
      first_byte 9 n (omega arith),
      first_byte 8 (n / 128) (omega arith),
      first_byte 7 (n / 128 / 128) (omega arith),
      first_byte 6 (n / 128 / 128 / 128) (omega arith),
      last_byte 5 (n / 128 / 128 / 128 / 128) (omega arith),
    ) refl

-- the length of a spelling, by ranges
pub length-varint_1 : (number : ℕ) → number < 128 → length (varint number) ≡ 1
unfolding varint
length-varint_1 number below = rw (last_byte 9 number below) refl

pub length-varint_6 : (number : ℕ) → number < 2 ^ 42 → length (varint number) ≤ 6
length-varint_6 number below = length-varint_below 5 number (omega arith) below

pub length-varint_10 : (number : ℕ) → number < 2 ^ 64 → length (varint number) ≤ 10
length-varint_10 number below = length-varint_below 9 number (omega arith) (omega arith)

pub length-varint_some : (number : ℕ) → number < 2 ^ 64 → 1 ≤ length (varint number)
unfolding varint
length-varint_some number below = (length-seven_bits_each 9 10 number (omega arith) (omega arith)).0
