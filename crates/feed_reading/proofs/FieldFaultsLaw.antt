-- The faults of fields, and of what follows them.
use Rattle.std.proofs.Common.{◌≡◌, ◌≢◌, ◌∙◌, ℕ, ◌+◌, ◌*◌, ◌<◌, List, [], ◌∷◌, ◌++◌, length, sym, ap, subst, inl, inr, arith}
use Rattle.std.proofs.lemmas.List.{nil_from_length}
use Rattle.std.specs.Prelude.{◌⊎◌, Some}
use Rattle.gw_base.specs.declared.wire_kind.WireKind.{WireKind}
use Rattle.gw_base.specs.declared.wire_kind.WireKind.TheVariants.{Truncated}
use Rattle.wire_fields.specs.Grammar.{WireField, IsSpelling, AreFields}
use Rattle.wire_fields.specs.Breaks.{IsBreak}
use Rattle.wire_fields.proofs.Lists.{Concatenates-one}
use Rattle.feed_reading.specs.declared.fault.FeedFault.{FeedFault}
use Rattle.feed_reading.specs.declared.fault.FeedFault.TheVariants.{EntityTooLong, Wire, NotText, MissingField, Memory}
use Rattle.feed_reading.specs.Faults.{IsLongAt, IsFeedFault, IsLeast, order}
use Rattle.feed_reading.specs.FieldFaults.{place_of, moved, HasFieldFault, HasFaultAfter, Faultless, IsFirst}
use Rattle.feed_reading.specs.Found.{IsLongHere}
use Rattle.feed_reading.proofs.Walking.{broken_here, long_here}
use Rattle.feed_reading.proofs.FieldFaultsKnown.{IsPlaced}
use Rattle.feed_reading.proofs.FieldFaultsMoved.{own_moved, own_back}
use Rattle.feed_reading.proofs.FieldFaultsOpen.{least_long, least_break, no_long_later}
use Rattle.feed_reading.proofs.FieldFaultsOwn.{Own, parts_of, has_own, own_within, own_not_header, of_header, own_split, own_front, zero_place, rest_has, least_of_rest, least_goes_on}

own_of : (bytes : List ℕ) (f : FeedFault) → HasFieldFault bytes f → Own 0 bytes f
own_of bytes f has =
    elim (parts_of bytes f has.0) [ inl own ↦ own | inr header ↦ absurd (has.1 (of_header bytes f header).0) ]

field_fault : (bytes : List ℕ) (f : FeedFault) → Own 0 bytes f → HasFieldFault bytes f
field_fault bytes f own = (has_own bytes f own, own_not_header 0 bytes f own)

pub faults_split : (front rest : List ℕ) (fields : List WireField) (f : FeedFault) → AreFields front fields
    → HasFieldFault (front ++ rest) f → HasFieldFault front f ⊎ HasFaultAfter (length front) rest f
faults_split front rest fields f read has =
    elim (own_split 0 fields front rest f read (own_of (front ++ rest) f has)) [
      | inl here ↦ inl (field_fault front f here)
      | inr later ↦
          let near = own_back (length front) rest f (zero_place (length front) rest f later) in
          inr (near.0, field_fault rest near.0 near.1, near.2)
    ]

pub faults_join : (front rest : List ℕ) (fields : List WireField) (f : FeedFault) → AreFields front fields
    → HasFieldFault front f ⊎ HasFaultAfter (length front) rest f → HasFieldFault (front ++ rest) f
faults_join front rest fields f read (inl has) =
    field_fault (front ++ rest) f (own_front 0 fields front rest f read (own_of front f has))
faults_join front rest fields f read (inr has) =
    let own = own_moved (length front) rest has.0 (own_of rest has.0 has.1) in
    subst (λ (g : FeedFault). HasFieldFault (front ++ rest) g) (sym has.2) (
      rest_has fields front rest (moved (length front) has.0) read own,
      own_not_header (length front) rest (moved (length front) has.0) own,
    )

pub place_within : (bytes : List ℕ) (f : FeedFault) → HasFieldFault bytes f → place_of f < length bytes
place_within bytes f has = omega (arith, (own_within 0 bytes f (own_of bytes f has)).below)

order_moved : (far : ℕ) (f : FeedFault) → IsPlaced f → order (moved far f) ≡ far * 4 + order f
order_moved far (EntityTooLong at) h = omega arith
order_moved far (Wire fault) h = omega arith
order_moved far (NotText at) h = omega arith
order_moved far (MissingField at name) h = omega arith
order_moved far Memory h = absurd h

-- the first fault of a field is that of the field further on
first_moved : (far : ℕ) (bytes : List ℕ) (f : FeedFault) → IsFirst bytes f → IsLeast (Own far bytes) (Some (moved far f))
first_moved far bytes f first =
    let own = own_of bytes f first.0 in (
      own_moved far bytes f own,
      λ other there.
          let near = own_back far bytes other there in
          let least = first.1 near.0 (field_fault bytes near.0 near.1) in
          omega (
            arith,
            least,
            order_moved far f (own_within 0 bytes f own).placed,
            order_moved far near.0 (own_within 0 bytes near.0 near.1).placed,
            ap order near.2,
          ),
    )

pub first_of_field : (front spelling more : List ℕ) (fields : List WireField) (field : WireField) (f : FeedFault)
    → AreFields front fields → Faultless front → IsSpelling 64 field spelling → IsFirst spelling f
    → IsFeedFault (front ++ (spelling ++ more)) (moved (length front) f)
first_of_field front spelling more fields field f read none spelled first =
    least_of_rest fields front (spelling ++ more) (moved (length front) f) read none
    (least_goes_on (length front) (field ∷ []) spelling more (moved (length front) f)
    (Concatenates-one (IsSpelling 64) field spelling spelled) (first_moved (length front) spelling f first))

-- ---- where no field begins, and at the end

long_at_once : (rest : List ℕ) → IsLongAt rest 0 → IsLongHere rest
long_at_once rest h =
    let none : h.front ≡ [] = nil_from_length h.front (omega (arith, h.place)) in
    record {
      tag = h.tag;
      size = h.size;
      rest = h.rest;
      joined = h.joined ∙ ap (λ (l : List ℕ). l ++ (h.tag ++ (h.size ++ h.rest))) none;
      tagged = h.tagged;
      len = h.len;
      sized = h.sized;
      long = h.long;
    }

pub long_is_first : (front rest : List ℕ) (fields : List WireField) → AreFields front fields → Faultless front
    → IsLongAt rest 0 → IsFeedFault (front ++ rest) (EntityTooLong (length front))
long_is_first front rest fields read none long =
    least_of_rest fields front rest (EntityTooLong (length front)) read none
    (least_long (length front) rest (long_at_once rest long))

pub break_is_first : (front rest : List ℕ) (fields : List WireField) (kind : WireKind) → AreFields front fields
    → Faultless front → ¬ IsLongAt rest 0 → rest ≢ [] → IsBreak rest kind
    → IsFeedFault (front ++ rest) (Wire (record { at = length front; kind = kind }))
break_is_first front rest fields kind read none short some breaks =
    least_of_rest fields front rest (Wire (record { at = length front; kind = kind })) read none
    (least_break (length front) rest kind (broken_here rest kind some breaks) (λ h. short (long_here rest h)))

pub breaks_short : (rest more : List ℕ) (kind : WireKind) → rest ≢ [] → IsBreak rest kind → kind ≢ Truncated
    → ¬ IsLongAt (rest ++ more) 0
breaks_short rest more kind some breaks ne long =
    no_long_later rest more kind (broken_here rest kind some breaks) ne (long_at_once (rest ++ more) long)
