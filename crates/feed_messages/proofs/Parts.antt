-- Fields that are written number by number, and what those of a number hold.
use Rattle.std.proofs.Common.{◌≡◌, ◌==◌, ℕ, ℤ, pos, negsuc, ◌+◌, ◌*◌, ◌^◌, ◌<◌, ◌≤◌, Bool, true, false, List, [], ◌∷◌, ◌++◌, length, map, refl, sym, ap, subst, ◌∙◌, arith, append_assoc, length-append}
use Rattle.std.proofs.lemmas.List.Elements.{filter_map-append}
use Rattle.std.specs.Prelude.{Option, Some, None, option_map, IfSome, if◌then◌else◌, FitsSigned, unsigned_abs}
use Rattle.std.specs.List.{filter_map, flat_map, cons_option}
use Rattle.std.specs.Int.{w64, cast_unsigned}
use Rattle.wire_fields.specs.Grammar.{Payload, Varint, Bytes, WireField, IsSpelling, AreFields}
use Rattle.wire_fields.specs.Spelling.{varint, varint_field, bytes_field}
use Rattle.wire_fields.proofs.Lists.{Concatenates-append, Concatenates-one}
use Rattle.wire_fields.proofs.Written.{varint_field_written, bytes_field_written}
use Rattle.gw_base.specs.declared.messages.Translation.{Translation}
use Rattle.feed_reading.specs.Meaning.{payloads}
use Rattle.feed_writing.specs.Written.{if_there, signed_field, relation_field, deleted_field, translated_string, translated_field}

-- the fields of a number, and those of parts, of which each has a number and what its fields hold
abbrev pub fields_with : ℕ → List Payload → List WireField
fields_with number payloads = map (λ p. record { number = number; payload = p }) payloads

abbrev pub fields_of : List (ℕ × List Payload) → List WireField
fields_of [] = []
fields_of (part ∷ parts) = fields_with part.0 part.1 ++ fields_of parts

-- what the fields of a number hold
abbrev pub held_by : ℕ → List (ℕ × List Payload) → List Payload
held_by number [] = []
held_by number (part ∷ parts) = (if part.0 == number then part.1 else []) ++ held_by number parts

held_with : {X : Type 0} (what : Payload → Option X) (number m : ℕ) (ps : List Payload)
    → payloads what number (fields_with m ps) ≡ filter_map (λ p. if m == number then what p else None) ps
held_with what number m [] = refl
held_with {X} what number m (p ∷ ps) =
    ap (λ (l : List X). cons_option (if m == number then what p else None) l) (held_with what number m ps)

passed : {X : Type 0} (what : Payload → Option X) (b : Bool) (ps : List Payload)
    → filter_map (λ p. if b then what p else None) ps ≡ filter_map what (if b then ps else [])
passed what true ps = refl
passed what false [] = refl
passed what false (p ∷ ps) = passed what false ps

pub held_parts : {X : Type 0} (what : Payload → Option X) (number : ℕ) (parts : List (ℕ × List Payload))
    → payloads what number (fields_of parts) ≡ filter_map what (held_by number parts)
held_parts what number [] = refl
held_parts {X} what number (part ∷ parts) =
    filter_map-append _ (fields_with part.0 part.1) (fields_of parts)
    ∙ ap (λ (l : List X). l ++ payloads what number (fields_of parts))
    (held_with what number part.0 part.1 ∙ passed what (part.0 == number) part.1)
    ∙ ap (λ (l : List X). filter_map what (if part.0 == number then part.1 else []) ++ l) (held_parts what number parts)
    ∙ sym (filter_map-append what (if part.0 == number then part.1 else []) (held_by number parts))

-- what an optional field holds
abbrev pub number_part : Option ℕ → List Payload
number_part None = []
number_part (Some value) = Varint value ∷ []

abbrev pub signed_part : Option ℤ → List Payload
signed_part value = number_part (option_map (cast_unsigned w64) value)

abbrev pub body_part : Option (List ℕ) → List Payload
body_part None = []
body_part (Some body) = Bytes body ∷ []

abbrev pub relation_part : ℤ → List Payload
relation_part relation = if unsigned_abs relation == 0 then [] else Varint (cast_unsigned w64 relation) ∷ []

abbrev pub deleted_part : Bool → List Payload
deleted_part deleted = if deleted then Varint 1 ∷ [] else []

-- an empty list of translations is a missing field
abbrev pub found_in : List Translation → Option (List Translation)
found_in [] = None
found_in (first ∷ others) = Some (first ∷ others)

-- bytes that are the fields of these parts, if a length can count them
pub record Builds (bytes : List ℕ) (parts : List (ℕ × List Payload)) : Type 0 where
  pub read : length bytes < 2 ^ 64 → AreFields bytes (fields_of parts)

fields_of-append : (ps qs : List (ℕ × List Payload)) → fields_of (ps ++ qs) ≡ fields_of ps ++ fields_of qs
fields_of-append [] qs = refl
fields_of-append (p ∷ ps) qs =
    ap (λ (l : List WireField). fields_with p.0 p.1 ++ l) (fields_of-append ps qs)
    ∙ sym (append_assoc (fields_with p.0 p.1) (fields_of ps) (fields_of qs))

pub then_built : {a b : List ℕ} {ps qs : List (ℕ × List Payload)} → Builds a ps → Builds b qs
    → Builds (a ++ b) (ps ++ qs)
then_built {a} {b} {ps} {qs} h k = record {
  read = λ short.
      let front : length a < 2 ^ 64 = omega (arith, length-append a b) in
      let back : length b < 2 ^ 64 = omega (arith, length-append a b) in
      subst (λ (fields : List WireField). AreFields (a ++ b) fields) (sym (fields_of-append ps qs))
      (Concatenates-append (IsSpelling 64) (fields_of ps) (fields_of qs) a b (h.read front) (k.read back));
}

body_fits : (number : ℕ) (body : List ℕ) → length (bytes_field number body) < 2 ^ 64 → length body < 2 ^ 64
body_fits number body short = omega (arith, length-append (varint (number * 8 + 2) ++ varint (length body)) body)

pub builds_body : (number : ℕ) (body : List ℕ) → 1 ≤ number → number ≤ 536870911
    → Builds (bytes_field number body) ((number, Bytes body ∷ []) ∷ [])
builds_body number body first last = record {
  read = λ short. Concatenates-one (IsSpelling 64) (record { number = number; payload = Bytes body })
      (bytes_field number body) (bytes_field_written number body first last (body_fits number body short));
}

pub builds_optional_body : {X : Type 0} (number : ℕ) (written : X → List ℕ) (x : Option X) → 1 ≤ number
    → number ≤ 536870911
    → Builds (if_there (λ x. bytes_field number (written x)) x) ((number, body_part (option_map written x)) ∷ [])
builds_optional_body number written None first last = record { read = λ short. refl }
builds_optional_body number written (Some x) first last = builds_body number (written x) first last

pub builds_optional_text : (number : ℕ) (text : Option (List ℕ)) → 1 ≤ number → number ≤ 536870911
    → Builds (if_there (bytes_field number) text) ((number, body_part text) ∷ [])
builds_optional_text number None first last = record { read = λ short. refl }
builds_optional_text number (Some body) first last = builds_body number body first last

pub builds_bodies : {X : Type 0} (number : ℕ) (written : X → List ℕ) (xs : List X) → 1 ≤ number → number ≤ 536870911
    → Builds (flat_map (λ x. bytes_field number (written x)) xs) ((number, map (λ x. Bytes (written x)) xs) ∷ [])
builds_bodies number written [] first last = record { read = λ short. refl }
builds_bodies {X} number written (x ∷ xs) first last = record {
  read = λ short.
      let rest = flat_map (λ (x : X). bytes_field number (written x)) xs in
      let front : length (bytes_field number (written x)) < 2 ^ 64 =
      omega (arith, length-append (bytes_field number (written x)) rest) in
      let back : length rest < 2 ^ 64 = omega (arith, length-append (bytes_field number (written x)) rest) in (
        bytes_field number (written x),
        rest,
        refl,
        bytes_field_written number (written x) first last (body_fits number (written x) front),
        (builds_bodies number written xs first last).read back,
      );
}

pub builds_number : (number value : ℕ) → 1 ≤ number → number ≤ 536870911 → value < 2 ^ 64
    → Builds (varint_field number value) ((number, Varint value ∷ []) ∷ [])
builds_number number value first last small = record {
  read = λ short. Concatenates-one (IsSpelling 64) (record { number = number; payload = Varint value })
      (varint_field number value) (varint_field_written number value first last small);
}

pub builds_optional_number : (number : ℕ) (value : Option ℕ) → 1 ≤ number → number ≤ 536870911
    → IfSome value (λ n. n < 2 ^ 64) → Builds (if_there (varint_field number) value) ((number, number_part value) ∷ [])
builds_optional_number number None first last small = record { read = λ short. refl }
builds_optional_number number (Some value) first last small = builds_number number value first last small

cast_fits : (z : ℤ) → FitsSigned w64 z → cast_unsigned w64 z < 2 ^ 64
cast_fits (pos n) fits = let small = fits.sfits in omega arith
cast_fits (negsuc n) fits = let small = fits.sfits in omega arith

pub builds_signed : (number : ℕ) (value : ℤ) → 1 ≤ number → number ≤ 536870911 → FitsSigned w64 value
    → Builds (signed_field number value) ((number, Varint (cast_unsigned w64 value) ∷ []) ∷ [])
builds_signed number value first last fits =
    builds_number number (cast_unsigned w64 value) first last (cast_fits value fits)

pub builds_optional_signed : (number : ℕ) (value : Option ℤ) → 1 ≤ number → number ≤ 536870911
    → IfSome value (FitsSigned w64) → Builds (if_there (signed_field number) value) ((number, signed_part value) ∷ [])
builds_optional_signed number None first last fits = record { read = λ short. refl }
builds_optional_signed number (Some value) first last fits = builds_signed number value first last fits

if_written : (b : Bool) (field : List ℕ) (number : ℕ) (payload : Payload) → Builds field ((number, payload ∷ []) ∷ [])
    → Builds (if b then field else []) ((number, if b then payload ∷ [] else []) ∷ [])
if_written true field number payload h = h
if_written false field number payload h = record { read = λ short. refl }

unless_written : (b : Bool) (field : List ℕ) (number : ℕ) (payload : Payload)
    → Builds field ((number, payload ∷ []) ∷ [])
    → Builds (if b then [] else field) ((number, if b then [] else payload ∷ []) ∷ [])
unless_written true field number payload h = record { read = λ short. refl }
unless_written false field number payload h = h

pub builds_relation : (relation : ℤ) → FitsSigned w64 relation
    → Builds (relation_field relation) ((5, relation_part relation) ∷ [])
builds_relation relation fits =
    unless_written (unsigned_abs relation == 0) (signed_field 5 relation) 5 (Varint (cast_unsigned w64 relation))
    (builds_signed 5 relation (omega arith) (omega arith) fits)

pub builds_deleted : (deleted : Bool) → Builds (deleted_field deleted) ((2, deleted_part deleted) ∷ [])
builds_deleted deleted =
    if_written deleted (varint_field 2 1) 2 (Varint 1) (builds_number 2 1 (omega arith) (omega arith) (omega arith))

pub builds_translations : (number : ℕ) (texts : List Translation) → 1 ≤ number → number ≤ 536870911
    → Builds (translated_field number texts) ((number, body_part (option_map translated_string (found_in texts))) ∷ [])
builds_translations number [] first last = record { read = λ short. refl }
builds_translations number (text ∷ texts) first last = builds_body number (translated_string (text ∷ texts)) first last
