-- A header that is written means what it was written from.
use Rattle.std.proofs.Common.{◌≡◌, ℕ, ℤ, pos, ◌+◌, ◌^◌, ◌<◌, ◌≤◌, List, [], ◌∷◌, ◌++◌, length, refl, ap, ◌∙◌, arith, length-append}
use Rattle.std.specs.Prelude.{Some, codes, IsUtf8, unsigned_abs}
use Rattle.wire_fields.specs.Grammar.{Varint, Bytes, WireField, IsSpelling, AreFields}
use Rattle.wire_fields.specs.Spelling.{varint, varint_field, bytes_field}
use Rattle.wire_fields.proofs.Lists.{Concatenates-one, Concatenates-push}
use Rattle.wire_fields.proofs.Varints.{length-varint_10}
use Rattle.wire_fields.proofs.Written.{varint_field_written, bytes_field_written}
use Rattle.feed_writing.specs.Written.{feed_header, header}
use Rattle.feed_writing.proofs.HeaderLemmas.{fields as header_front, feed_header-is}
use Rattle.feed_reading.specs.Meaning.{Means}
use Rattle.feed_reading.specs.Tables.{OfFeedHeader, MeansFeed, full_dataset}
use Rattle.feed_reading.proofs.Building.{one_body}

-- a field of a number, and of bytes
abbrev number_field : ℕ → ℕ → WireField
number_field number value = record { number = number; payload = Varint value }

abbrev body_field : ℕ → List ℕ → WireField
body_field number body = record { number = number; payload = Bytes body }

-- bytes that are a list of fields: one field alone, and one more after others
record Reads (bytes : List ℕ) (fields : List WireField) : Type 0 where
  read : AreFields bytes fields

body_alone : (number : ℕ) (body : List ℕ) → 1 ≤ number → number ≤ 536870911 → length body < 2 ^ 64
    → Reads (bytes_field number body) (body_field number body ∷ [])
body_alone number body first last short =
    record {
      read = Concatenates-one (IsSpelling 64) (body_field number body) (bytes_field number body)
          (bytes_field_written number body first last short);
    }

then_number : {fields : List WireField} {front : List ℕ} → Reads front fields → (number value : ℕ) → 1 ≤ number
    → number ≤ 536870911 → value < 2 ^ 64
    → Reads (front ++ varint_field number value) (fields ++ number_field number value ∷ [])
then_number {fields} {front} h number value first last small =
    record {
      read = Concatenates-push (IsSpelling 64) fields (number_field number value) front
          (varint_field number value) h.read (varint_field_written number value first last small);
    }

-- the header of a full dataset
version_is_text : IsUtf8 (codes "2.0")
unfolding lib.Utf8.encode
version_is_text = (codes "2.0", (refl, refl))

means_feed_header : (timestamp : ℕ) → timestamp < 2 ^ 64
    → Means OfFeedHeader (feed_header timestamp)
    (record { version = codes "2.0"; incrementality = pos 0; timestamp = Some timestamp })
means_feed_header timestamp small = record {
  fields = body_field 1 (codes "2.0") ∷ number_field 2 0 ∷ number_field 3 timestamp ∷ [];
  read =
      let version = body_alone 1 (codes "2.0") (omega arith) (omega arith) (omega arith) in
      let full = then_number version 2 0 (omega arith) (omega arith) (omega arith) in
      (then_number full 3 timestamp (omega arith) (omega arith) small).read;
  table = record { gtfs_realtime_version = ((version_is_text, tt), refl); incrementality = refl; timestamp = refl };
}

length-feed_header : (timestamp : ℕ) → timestamp < 2 ^ 64 → length (feed_header timestamp) < 2 ^ 64
length-feed_header timestamp small =
    let ten : length (varint timestamp) ≤ 10 = length-varint_10 timestamp small in
    let whole : length (feed_header timestamp) ≡ 8 + length (varint timestamp) =
    ap length (feed_header-is timestamp) ∙ length-append header_front (varint timestamp) in
    omega arith

-- a header alone is a feed without entities
pub means_header : (moment : ℤ) → unsigned_abs moment < 2 ^ 64 → MeansFeed (header moment) (full_dataset moment [])
means_header moment small =
    let inside = means_feed_header (unsigned_abs moment) small in record {
      fields = body_field 1 (feed_header (unsigned_abs moment)) ∷ [];
      read = (body_alone 1 (feed_header (unsigned_abs moment)) (omega arith) (omega arith)
          (length-feed_header (unsigned_abs moment) small)).read;
      table = record {
        header = (((inside.fields, inside.read), tt), one_body OfFeedHeader _ _ inside);
        entity = tt;
      };
    }
