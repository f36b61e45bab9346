-- Reading a varint from left to right, seven bits at a time.
use Rattle.std.proofs.Common.{◌≡◌, ℕ, suc, ◌+◌, ◌-◌, ◌*◌, ◌/◌, ◌%◌, ◌^◌, ◌<◌, ◌≤◌, List, [], ◌∷◌, length, get_or, drop, Result, Ok, Err, refl, sym, ap, ◌∙◌, arith, add-one}
use Rattle.std.specs.Int.Bits.{bit_or}
use Rattle.std.proofs.lemmas.List.{drop_more, drop_all}
use Rattle.std.proofs.lemmas.Nat.{pow-add, or_comm, or_shifted, mod-mul-add, mul-add-lt, mod_below, div-add-mod', pow_pos}
use Rattle.std.proofs.Math.Nat.{mod-eq_of_lt, pow-suc, mul-le-mul_left}
use Rattle.gw_base.specs.declared.wire_kind.WireKind.{WireKind}
use Rattle.gw_base.specs.declared.wire_kind.WireKind.TheVariants.{Truncated, LongVarint}
use Rattle.gw_base.specs.Chains.{◌>>=◌}
use Rattle.wire_fields.specs.Reading.{chain_at, varint_at}
use Rattle.wire_fields.proofs.Numbers.{chain_last, chain_more}
use Rattle.wire_fields.proofs.Varints.{power}

-- what is read of the rest, after i bytes whose number is low
abbrev pub raised : ℕ → ℕ → Result (ℕ × List ℕ) WireKind → Result (ℕ × List ℕ) WireKind
raised low i read = read >>= λ rest. Ok (low + 128 ^ i * rest.0, rest.1)

-- the first i bytes belong to the number, and the value so far is theirs
pub record IsScan (bytes : List ℕ) (i value : ℕ) : Type 0 where
  pub low : ℕ
  pub within : i ≤ length bytes
  pub small : low < 128 ^ i
  pub value_is : value ≡ low % 2 ^ 64
  pub same : chain_at 10 bytes ≡ raised low i (chain_at (10 - i) (drop i bytes))

-- seven more bits, of which those past 64 are dropped
pub or_value : (low i c : ℕ) → i < 10 → low < 128 ^ i → bit_or (low % 2 ^ 64) (c * 2 ^ (7 * i) % 2 ^ 64) ≡ (low + 128 ^ i * c) % 2 ^ 64
or_value low i c lt small =
    let p = 2 ^ (7 * i) in
    let m = 2 ^ (64 - 7 * i) in
    let q = c / m in
    let r = c % m in
    let p_is : 128 ^ i ≡ p = power i in
    let bits : 7 * i + (64 - 7 * i) ≡ 64 = omega arith in
    let whole : p * m ≡ 2 ^ 64 = sym (pow-add 2 (7 * i) (64 - 7 * i)) ∙ ap (λ (k : ℕ). 2 ^ k) bits in
    let r_lt : r < m = mod_below c m (pow_pos (64 - 7 * i)) in
    let split : q * m + r ≡ c = div-add-mod' c m in
    let low_lt : low < p = rw (← p_is) small in
    let all_lt : r * p + low < 2 ^ 64 = rw (← whole) (mul-add-lt r p low m r_lt low_lt) in
    let product : c * p ≡ q * 2 ^ 64 + r * p = omega (arith, ap (λ (x : ℕ). x * p) split, ap (λ (x : ℕ). q * x) whole) in
    let high : c * p % 2 ^ 64 ≡ r * p = rw product (mod-mul-add q (2 ^ 64) (r * p) (omega arith)) in
    let low_is : low % 2 ^ 64 ≡ low = mod-eq_of_lt (omega arith) in
    let sum : low + 128 ^ i * c ≡ q * 2 ^ 64 + (r * p + low) = omega (arith, product, ap (λ (x : ℕ). x * c) p_is) in
    rw (high, low_is, sum, mod-mul-add q (2 ^ 64) (r * p + low) all_lt) (or_comm low (r * p) ∙ or_shifted r (7 * i) low low_lt)

raised_none : (read : Result (ℕ × List ℕ) WireKind) → read ≡ raised 0 0 read
raised_none (Ok x) = ap (λ (n : ℕ). Ok (n, x.1)) (omega arith)
raised_none (Err k) = refl

pub scan_none : (bytes : List ℕ) → IsScan bytes 0 0
scan_none bytes = record { low = 0; within = omega arith; small = omega arith; value_is = refl; same = raised_none (chain_at 10 bytes) }

raised_more : (low i c : ℕ) (read : Result (ℕ × List ℕ) WireKind) → raised low i (read >>= λ rest. Ok (c + 128 * rest.0, rest.1)) ≡ raised (low + 128 ^ i * c) (i + 1) read
raised_more low i c (Ok x) =
    let more : 128 ^ (i + 1) ≡ 128 ^ i * 128 = rw add-one (pow-suc 128 i) in
    let sum : low + 128 ^ i * (c + 128 * x.0) ≡ low + 128 ^ i * c + 128 ^ (i + 1) * x.0 = omega (arith, ap (λ (n : ℕ). n * x.0) more) in
    ap (λ (n : ℕ). Ok (n, x.1)) sum
raised_more low i c (Err k) = refl

-- one more byte, which isn't the last
pub scan_more : (bytes : List ℕ) (i value byte c : ℕ) → IsScan bytes i value → i < 10 → i < length bytes → byte ≡ get_or bytes i 0 → 128 ≤ byte → c ≡ byte % 128
    → IsScan bytes (i + 1) (bit_or value (c * 2 ^ (7 * i) % 2 ^ 64))
scan_more bytes i value byte c s lt in_bytes byte_is high c_is =
    let left : 10 - i ≡ suc (10 - (i + 1)) = omega arith in
    let more : 128 ^ (i + 1) ≡ 128 ^ i * 128 = rw add-one (pow-suc 128 i) in
    let most : c ≤ 127 = omega arith in
    let here : drop i bytes ≡ byte ∷ drop (i + 1) bytes = drop_more bytes i 0 in_bytes ∙ ap (λ (b : ℕ). b ∷ drop (i + 1) bytes) (sym byte_is) in
    let step : chain_at (10 - i) (drop i bytes) ≡ (chain_at (10 - (i + 1)) (drop (i + 1) bytes) >>= λ rest. Ok (c + 128 * rest.0, rest.1)) =
    rw (left, here, c_is) (chain_more (10 - (i + 1)) byte (drop (i + 1) bytes) high) in
    record {
      low = s.low + 128 ^ i * c;
      within = omega arith;
      small = omega (arith, more, s.small, mul-le-mul_left (128 ^ i) most);
      value_is = ap (λ (v : ℕ). bit_or v (c * 2 ^ (7 * i) % 2 ^ 64)) s.value_is ∙ or_value s.low i c lt s.small;
      same = s.same ∙ ap (raised s.low i) step ∙ raised_more s.low i c (chain_at (10 - (i + 1)) (drop (i + 1) bytes));
    }

-- the last byte
pub scan_last : (bytes : List ℕ) (i value byte c : ℕ) → IsScan bytes i value → i < 10 → i < length bytes → byte ≡ get_or bytes i 0 → byte < 128 → c ≡ byte % 128
    → varint_at bytes ≡ Ok (bit_or value (c * 2 ^ (7 * i) % 2 ^ 64), drop (i + 1) bytes)
unfolding varint_at
scan_last bytes i value byte c s lt in_bytes byte_is low c_is =
    let left : 10 - i ≡ suc (10 - (i + 1)) = omega arith in
    let here : drop i bytes ≡ byte ∷ drop (i + 1) bytes = drop_more bytes i 0 in_bytes ∙ ap (λ (b : ℕ). b ∷ drop (i + 1) bytes) (sym byte_is) in
    let step : chain_at (10 - i) (drop i bytes) ≡ Ok (c, drop (i + 1) bytes) = rw (left, here, c_is) (chain_last (10 - (i + 1)) byte (drop (i + 1) bytes) low) in
    let whole : chain_at 10 bytes ≡ Ok (s.low + 128 ^ i * c, drop (i + 1) bytes) = s.same ∙ ap (raised s.low i) step in
    rw whole (ap (λ (v : ℕ). Ok (v, drop (i + 1) bytes)) (sym (ap (λ (v : ℕ). bit_or v (c * 2 ^ (7 * i) % 2 ^ 64)) s.value_is ∙ or_value s.low i c lt s.small)))

-- the bytes end
pub scan_cut : (bytes : List ℕ) (i value : ℕ) → IsScan bytes i value → i < 10 → i ≡ length bytes → varint_at bytes ≡ Err Truncated
unfolding varint_at chain_at
scan_cut bytes i value s lt end =
    let left : 10 - i ≡ suc (10 - (i + 1)) = omega arith in
    let here : drop i bytes ≡ [] = drop_all i bytes (omega arith) in
    let step : chain_at (10 - i) (drop i bytes) ≡ Err Truncated = rw (left, here) refl in
    let whole : chain_at 10 bytes ≡ Err Truncated = s.same ∙ ap (raised s.low i) step in
    rw whole refl

-- ten bytes, of which none was the last
pub scan_long : (bytes : List ℕ) (i value : ℕ) → IsScan bytes i value → i ≡ 10 → varint_at bytes ≡ Err LongVarint
unfolding varint_at chain_at
scan_long bytes i value s end =
    let left : 10 - i ≡ 0 = omega arith in
    let step : chain_at (10 - i) (drop i bytes) ≡ Err LongVarint = rw left refl in
    let whole : chain_at 10 bytes ≡ Err LongVarint = s.same ∙ ap (raised s.low i) step in
    rw whole refl
