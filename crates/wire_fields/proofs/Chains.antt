-- Reading a number over any cuts.
use Rattle.std.proofs.Common.{◌≡◌, ℕ, ◌+◌, ◌-◌, ◌*◌, ◌%◌, ◌^◌, ◌<◌, ◌≤◌, List, [], ◌∷◌, ◌++◌, length, take, get_or, sym, ap, ◌∙◌, arith, append_assoc}
use Rattle.std.specs.Int.Bits.{bit_or}
use Rattle.std.proofs.lemmas.List.{length-append, take_more}
use Rattle.std.proofs.lemmas.Nat.{pow-add, pow_pos}
use Rattle.std.proofs.Math.Nat.{mod-eq_of_lt, pow-suc, mul-le-mul_left}
use Rattle.wire_fields.specs.Grammar.{IsChain, number_of, IsVarint}
use Rattle.wire_fields.specs.TopReading.{IsBegun}
use Rattle.wire_fields.proofs.Numbers.{AreHigh, IsChain-cons}
use Rattle.wire_fields.proofs.Scans.{or_value}
use Rattle.wire_fields.proofs.Varints.{power}

-- ---- one byte more after bytes that all have the high bit set

number_of-push : (bytes : List ℕ) (byte : ℕ) → number_of (bytes ++ byte ∷ []) ≡ number_of bytes + 128 ^ length bytes * (byte % 128)
number_of-push [] byte = omega arith
number_of-push (first ∷ bytes) byte =
    omega (arith, number_of-push bytes byte, ap (λ (x : ℕ). x * (byte % 128)) (pow-suc 128 (length bytes)))

number_of-below : (bytes : List ℕ) → number_of bytes < 128 ^ length bytes
number_of-below [] = omega arith
number_of-below (byte ∷ bytes) = omega (arith, number_of-below bytes, pow-suc 128 (length bytes))

AreHigh-push : (bytes : List ℕ) (byte : ℕ) → AreHigh bytes → 128 ≤ byte → AreHigh (bytes ++ byte ∷ [])
AreHigh-push [] byte h le = (le, tt)
AreHigh-push (first ∷ bytes) byte h le = (h.0, AreHigh-push bytes byte h.1 le)

IsChain-push : (bytes : List ℕ) (byte : ℕ) → AreHigh bytes → byte < 128 → IsChain (bytes ++ byte ∷ [])
IsChain-push [] byte h lt = lt
IsChain-push (first ∷ bytes) byte h lt = IsChain-cons first (bytes ++ byte ∷ []) h.0 (IsChain-push bytes byte h.1 lt)

-- nine bytes make a number below 2^64
few_below : (i : ℕ) → i ≤ 9 → 128 ^ i ≤ 2 ^ 64
few_below i le =
    let bits : 7 * i + (64 - 7 * i) ≡ 64 = omega arith in
    let whole : 2 ^ (7 * i) * 2 ^ (64 - 7 * i) ≡ 2 ^ 64 = sym (pow-add 2 (7 * i) (64 - 7 * i)) ∙ ap (λ (k : ℕ). 2 ^ k) bits in
    let least : 1 ≤ 2 ^ (64 - 7 * i) = pow_pos (64 - 7 * i) in
    omega (arith, power i, whole, mul-le-mul_left (2 ^ (7 * i)) least)

-- ---- so far in a number

-- so many bytes that all have the high bit set, and their number without the bits past 64
pub record IsScanned (i value : ℕ) (bytes : List ℕ) : Type 0 where
  pub counted : length bytes ≡ i
  pub high : AreHigh bytes
  pub value_is : value ≡ number_of bytes % 2 ^ 64

number_fits : (i : ℕ) (bytes : List ℕ) → length bytes ≡ i → i ≤ 9 → number_of bytes % 2 ^ 64 ≡ number_of bytes
number_fits i bytes len le =
    let lt : number_of bytes < 128 ^ i = rw (← len) (number_of-below bytes) in
    mod-eq_of_lt (omega (arith, lt, few_below i le))

-- the value with seven bits more
value_more : (i value byte c : ℕ) (bytes : List ℕ) → IsScanned i value bytes → i < 10 → c ≡ byte % 128 → bit_or value (c * 2 ^ (7 * i) % 2 ^ 64) ≡ number_of (bytes ++ byte ∷ []) % 2 ^ 64
value_more i value byte c bytes s lt c_is =
    let below : number_of bytes < 128 ^ i = rw (← s.counted) (number_of-below bytes) in
    let sum : number_of bytes + 128 ^ i * c ≡ number_of (bytes ++ byte ∷ []) = rw (← s.counted, c_is) (sym (number_of-push bytes byte)) in
    ap (λ (v : ℕ). bit_or v (c * 2 ^ (7 * i) % 2 ^ 64)) s.value_is ∙ or_value (number_of bytes) i c lt below ∙ ap (λ (n : ℕ). n % 2 ^ 64) sum

pub scanned_more : (i value byte c : ℕ) (bytes : List ℕ) → IsScanned i value bytes → i < 10 → 128 ≤ byte → c ≡ byte % 128 → IsScanned (i + 1) (bit_or value (c * 2 ^ (7 * i) % 2 ^ 64)) (bytes ++ byte ∷ [])
scanned_more i value byte c bytes s lt le c_is = record {
  counted = omega (arith, s.counted, length-append bytes (byte ∷ []));
  high = AreHigh-push bytes byte s.high le;
  value_is = value_more i value byte c bytes s lt c_is;
}

pub scanned_last : (i value byte c : ℕ) (bytes : List ℕ) → IsScanned i value bytes → i < 10 → byte < 128 → c ≡ byte % 128 → IsVarint (bytes ++ byte ∷ []) (bit_or value (c * 2 ^ (7 * i) % 2 ^ 64))
scanned_last i value byte c bytes s lt low c_is = record {
  chain = IsChain-push bytes byte s.high low;
  short = omega (arith, s.counted, length-append bytes (byte ∷ []));
  value_is = value_more i value byte c bytes s lt c_is;
}

-- the bytes end
pub scanned_cut : (i value : ℕ) (bytes : List ℕ) → IsScanned i value bytes → i ≤ 9 → IsBegun (record { count = i; value = value }) bytes
scanned_cut i value bytes s le = record {
  counted = s.counted;
  few = le;
  high = s.high;
  value_is = s.value_is ∙ number_fits i bytes s.counted le;
}

-- one byte more of a piece
pub taken_one : (begun bytes : List ℕ) (n : ℕ) → n < length bytes → begun ++ take (n + 1) bytes ≡ (begun ++ take n bytes) ++ get_or bytes n 0 ∷ []
taken_one begun bytes n lt = ap (λ (l : List ℕ). begun ++ l) (take_more bytes n 0 lt) ∙ sym (append_assoc begun (take n bytes) (get_or bytes n 0 ∷ []))
