-- What is written is a spelling.
use Rattle.std.proofs.Common.{◌≡◌, ℕ, zero, suc, ◌+◌, ◌*◌, ◌/◌, ◌%◌, ◌^◌, ◌<◌, ◌≤◌, List, ◌++◌, length, refl, sym, ap, ◌∙◌, arith, inl, inr, append_assoc, add-zero}
use Rattle.std.proofs.lemmas.Bool.{cases_lt}
use Rattle.std.proofs.Math.Nat.{mod-eq_of_lt}
use Rattle.wire_fields.specs.Grammar.{Varint, Bytes, IsChain, number_of, IsVarint, IsSpelling}
use Rattle.wire_fields.specs.Spelling.{seven_bits_each, varint, varint_field, bytes_field}
use Rattle.wire_fields.proofs.Varints.{one_more, no_more, length-varint_10}
use Rattle.wire_fields.proofs.Numbers.{IsChain-cons}

-- the bytes of a number are a chain, which makes that number
chain_written : (most number : ℕ) → number < 128 ^ suc most → IsChain (seven_bits_each (suc most) number) × (number_of (seven_bits_each (suc most) number) ≡ number)
chain_written zero number lt = rw (no_more 1 0 number refl (omega arith)) (omega arith, omega arith)
chain_written (suc most) number lt =
    elim (cases_lt number 128) [
      | inl last ↦ rw (no_more (suc (suc most)) (suc most) number refl last) (last, omega arith)
      | inr more ↦
          let step = one_more (suc (suc most)) (suc most) number refl more lt in
          let rest = chain_written most (number / 128) step.1 in
          rw step.2 (IsChain-cons (number % 128 + 128) (seven_bits_each (suc most) (number / 128)) (omega arith) rest.0, omega (arith, rest.1))
    ]

pub varint_written : (value : ℕ) → value < 2 ^ 64 → IsVarint (varint value) value
unfolding varint
varint_written value lt =
    let c = chain_written 9 value (omega arith) in
    record { chain = c.0; short = length-varint_10 value lt; value_is = sym (ap (λ (n : ℕ). n % 2 ^ 64) c.1 ∙ mod-eq_of_lt lt) }

pub varint_field_written : (number value : ℕ) → 1 ≤ number → number ≤ 536870911 → value < 2 ^ 64 → IsSpelling 64 (record { number = number; payload = Varint value }) (varint_field number value)
varint_field_written number value first last lt = record {
  tag = varint (number * 8);
  payload = varint value;
  joined = refl;
  tagged = rw add-zero (varint_written (number * 8) (omega arith));
  sound = record { bits = omega arith; number = omega arith; type = omega arith };
  paid = varint_written value lt;
}

pub bytes_field_written : (number : ℕ) (body : List ℕ) → 1 ≤ number → number ≤ 536870911 → length body < 2 ^ 64 → IsSpelling 64 (record { number = number; payload = Bytes body }) (bytes_field number body)
bytes_field_written number body first last lt = record {
  tag = varint (number * 8 + 2);
  payload = varint (length body) ++ body;
  joined = append_assoc (varint (number * 8 + 2)) (varint (length body)) body;
  tagged = varint_written (number * 8 + 2) (omega arith);
  sound = record { bits = omega arith; number = omega arith; type = omega arith };
  paid = (varint (length body), varint_written (length body) lt, refl);
}
