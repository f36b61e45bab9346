-- The bytes of a header, cell by cell.
use Rattle.std.proofs.Common.{◌≡◌, ℕ, ◌+◌, ◌<◌, ◌≤◌, ◌^◌, List, [], ◌∷◌, ◌++◌, length, length-append, arith, refl, ap, ◌∙◌}
use Rattle.wire_fields.specs.Spelling.{seven_bits_each, varint, bytes_field}
use Rattle.wire_fields.proofs.Varints.{length-varint_6, varint-small}
use Rattle.feed_writing.specs.Written.{feed_header}

-- the fields up to the timestamp's value
abbrev pub fields : List ℕ
fields = 10 ∷ 3 ∷ 50 ∷ 46 ∷ 48 ∷ 16 ∷ 0 ∷ 24 ∷ []

pub feed_header-is : (timestamp : ℕ) → feed_header timestamp ≡ fields ++ varint timestamp
unfolding varint seven_bits_each
feed_header-is timestamp = refl

bytes_field-short : (body : List ℕ) → length body < 128 → bytes_field 1 body ≡ 10 ∷ length body ∷ body
bytes_field-short body short =
    ap (λ (tag : List ℕ). tag ++ varint (length body) ++ body) (varint-small 10 (omega arith))
    ∙ ap (λ (len : List ℕ). 10 ∷ (len ++ body)) (varint-small (length body) short)

-- the header, with the length of its timestamp
pub header-is : (timestamp : ℕ) → timestamp < 2 ^ 42 →
    bytes_field 1 (feed_header timestamp) ≡ 10 ∷ (8 + length (varint timestamp)) ∷ (fields ++ varint timestamp)
header-is timestamp small =
    let six : length (varint timestamp) ≤ 6 = length-varint_6 timestamp small in
    let sum : length (fields ++ varint timestamp) ≡ 8 + length (varint timestamp) =
    length-append fields (varint timestamp) in
    ap (bytes_field 1) (feed_header-is timestamp) ∙ bytes_field-short (fields ++ varint timestamp) (omega (arith, sum))
    ∙ ap (λ (n : ℕ). 10 ∷ n ∷ (fields ++ varint timestamp)) sum
