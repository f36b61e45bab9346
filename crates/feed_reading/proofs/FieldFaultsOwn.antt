-- The faults that bytes have which stand at a place in a feed, but those of its header as a whole.
use Rattle.std.proofs.Common.{◌≡◌, ℕ, ◌+◌, ◌*◌, ◌<◌, ◌≤◌, List, [], ◌∷◌, ◌++◌, length, length-append, refl, sym, ap, subst, ◌∙◌, inl, inr, arith}
use Rattle.std.specs.Prelude.{◌⊎◌, Some}
use Rattle.gw_base.specs.declared.required.Required.{Required}
use Rattle.gw_base.specs.declared.required.Required.TheVariants.{Header, GtfsRealtimeVersion, Id, Trip, Text}
use Rattle.wire_fields.specs.Grammar.{WireField, IsChain, AreFields}
use Rattle.feed_reading.specs.declared.fault.FeedFault.{FeedFault}
use Rattle.feed_reading.specs.declared.fault.FeedFault.TheVariants.{EntityTooLong, Wire, NotText, MissingField, Memory}
use Rattle.feed_reading.specs.Known.{entity_known}
use Rattle.feed_reading.specs.Faults.{Piece, whole, Stands, Inside, Only, IsTorn, IsNotText, IsMissing, IsLongAt, IsTooLong, HasFault, IsFeedFault, IsLeast, order}
use Rattle.feed_reading.specs.FieldFaults.{AtEnd, IsOfHeader, Faultless}
use Rattle.feed_reading.specs.Pieces.{InEach}
use Rattle.feed_reading.proofs.Walking.{from}
use Rattle.feed_reading.proofs.WholeMessages.{fields_not_torn}
use Rattle.feed_reading.proofs.FieldFaultsSplit.{stands_split, stands_within, stands_after, broken_split, broken_after, long_split, long_within, long_after}
use Rattle.feed_reading.proofs.FieldFaultsKnown.{IsWithin, lies_inside, torn_within, text_within, each_any, each_within, order_from, order_below}

pub data Own : ℕ → List ℕ → FeedFault → Type 0 where
  too_long : {start : ℕ} {bytes : List ℕ} {f : FeedFault} (at : ℕ) → IsLongAt bytes at → f ≡ EntityTooLong (start + at)
      → Own start bytes f
  torn : {start : ℕ} {bytes : List ℕ} {f : FeedFault} → IsTorn (from 0 start bytes) f → Own start bytes f
  torn_header : {start : ℕ} {bytes : List ℕ} {f : FeedFault} (q : Piece) → Stands (from 0 start bytes) 1 q → IsTorn q f
      → Own start bytes f
  header_text : {start : ℕ} {bytes : List ℕ} {f : FeedFault} (q p : Piece) → Stands (from 0 start bytes) 1 q
      → Stands q 1 p → IsNotText p f → Own start bytes f
  in_entity : {start : ℕ} {bytes : List ℕ} {f : FeedFault} (q : Piece) → Stands (from 0 start bytes) 2 q
      → InEach entity_known 0 q f → Own start bytes f

-- the header or its version is missing in these bytes
abbrev pub OfHeader : List ℕ → FeedFault → Type 0
OfHeader bytes f =
    IsMissing 1 (Some Header) (Only (whole bytes)) (length bytes) f
    ⊎ IsMissing 1 (Some GtfsRealtimeVersion) (Inside 1 (Only (whole bytes))) (length bytes) f

-- ---- the faults of all bytes are their own, or those of the header

alone : (bytes : List ℕ) (number : ℕ) (q : Piece) → Inside number (Only (whole bytes)) q
    → Stands (from 0 0 bytes) number q
alone bytes number q x = subst (λ (p : Piece). Stands p number q) x.1 x.2

inside_alone : (bytes : List ℕ) (number : ℕ) (q : Piece) → Stands (from 0 0 bytes) number q
    → Inside number (Only (whole bytes)) q
inside_alone bytes number q st = (whole bytes, refl, st)

too_long_own : (bytes : List ℕ) (f : FeedFault) → IsTooLong bytes f → Own 0 bytes f
too_long_own bytes (EntityTooLong at) x =
    let e : at ≡ 0 + at = omega arith in too_long at x (ap EntityTooLong e)
too_long_own bytes (Wire fault) x = absurd x
too_long_own bytes (NotText at) x = absurd x
too_long_own bytes (MissingField at name) x = absurd x
too_long_own bytes Memory x = absurd x

pub parts_of : (bytes : List ℕ) (f : FeedFault) → HasFault bytes f → Own 0 bytes f ⊎ OfHeader bytes f
parts_of bytes f (inl x) = inl (too_long_own bytes f x)
parts_of bytes f (inr (inl x)) = inl (torn x)
parts_of bytes f (inr (inr (inl (inl (inl x))))) = inl (torn_header x.0 (alone bytes 1 x.0 x.1) x.2)
parts_of bytes f (inr (inr (inl (inl (inr (inl (inl x))))))) =
    inl (header_text x.1.0 x.0 (alone bytes 1 x.1.0 x.1.1) x.1.2 x.2)
parts_of bytes f (inr (inr (inl (inl (inr (inl (inr x))))))) = inr (inr x)
parts_of bytes f (inr (inr (inl (inl (inr (inr x)))))) = absurd x
parts_of bytes f (inr (inr (inl (inr x)))) = inr (inl x)
parts_of bytes f (inr (inr (inr (inl x)))) =
    inl (in_entity x.0 (alone bytes 2 x.0 x.1) (each_any (length bytes) 0 x.0 f x.2))
parts_of bytes f (inr (inr (inr (inr x)))) = absurd x

pub has_own : (bytes : List ℕ) (f : FeedFault) → Own 0 bytes f → HasFault bytes f
has_own bytes f (too_long at long e) =
    let same : EntityTooLong at ≡ f = (let n : at ≡ 0 + at = omega arith in ap EntityTooLong n) ∙ sym e in
    inl (subst (λ (g : FeedFault). IsTooLong bytes g) same long)
has_own bytes f (torn x) = inr (inl x)
has_own bytes f (torn_header q st x) = inr (inr (inl (inl (inl (q, inside_alone bytes 1 q st, x)))))
has_own bytes f (header_text q p st inner x) =
    inr (inr (inl (inl (inr (inl (inl (p, (q, inside_alone bytes 1 q st, inner), x)))))))
has_own bytes f (in_entity q st x) =
    inr (inr (inr (inl (q, inside_alone bytes 2 q st, each_any 0 (length bytes) q f x))))

-- ---- where they are told

chain_some : (bytes : List ℕ) → IsChain bytes → 0 < length bytes
chain_some [] h = absurd h
chain_some (byte ∷ bytes) h = omega arith

pub long_place : (bytes : List ℕ) (at : ℕ) → IsLongAt bytes at → at < length bytes
long_place bytes at h =
    let some : 0 < length h.tag = chain_some h.tag h.tagged.chain in
    omega (
      arith,
      h.place,
      ap length h.joined,
      length-append h.front (h.tag ++ (h.size ++ h.rest)),
      length-append h.tag (h.size ++ h.rest),
    )

pub own_within : (start : ℕ) (bytes : List ℕ) (f : FeedFault) → Own start bytes f
    → IsWithin start (start + length bytes) f
own_within start bytes f (too_long at long e) =
    subst (λ (g : FeedFault). IsWithin start (start + length bytes) g) (sym e)
    (record { from_low = omega arith; below = omega (arith, long_place bytes at long); not_header = λ x. x; placed = tt })
own_within start bytes f (torn x) =
    torn_within start (start + length bytes) (from 0 start bytes) f (omega arith) (omega arith) x
own_within start bytes f (torn_header q st x) =
    let lies = lies_inside start (start + length bytes) 1 (from 0 start bytes) q (omega arith) (omega arith) st in
    torn_within start (start + length bytes) q f lies.start lies.end x
own_within start bytes f (header_text q p st inner x) =
    let outer = lies_inside start (start + length bytes) 1 (from 0 start bytes) q (omega arith) (omega arith) st in
    let lies = lies_inside start (start + length bytes) 1 q p outer.start outer.end inner in
    text_within start (start + length bytes) p f lies.tag lies.tag_below x
own_within start bytes f (in_entity q st x) =
    let lies = lies_inside start (start + length bytes) 2 (from 0 start bytes) q (omega arith) (omega arith) st in
    each_within start (start + length bytes) 0 q lies f x

pub own_not_header : (start : ℕ) (bytes : List ℕ) (f : FeedFault) → Own start bytes f → ¬ IsOfHeader f
own_not_header start bytes f own = (own_within start bytes f own).not_header

pub own_from : (start : ℕ) (bytes : List ℕ) (f : FeedFault) → Own start bytes f → start * 4 ≤ order f
own_from start bytes f own = omega (arith, (own_within start bytes f own).from_low, order_from f)

pub own_below : (start : ℕ) (bytes : List ℕ) (f : FeedFault) → Own start bytes f
    → order f < (start + length bytes) * 4
own_below start bytes f own = omega (arith, (own_within start bytes f own).below, order_below f)

missing_order : (name : Required) (M : Piece → Type 0) (end : ℕ) (f : FeedFault) → AtEnd name
    → IsMissing 1 (Some name) M end f → IsOfHeader f × (order f ≡ end * 4 + 3)
missing_order Header M end (MissingField at missed) is x =
    (subst (λ (n : Required). AtEnd n) (sym x.2) tt, omega (arith, x.3))
missing_order GtfsRealtimeVersion M end (MissingField at missed) is x =
    (subst (λ (n : Required). AtEnd n) (sym x.2) tt, omega (arith, x.3))
missing_order Id M end (MissingField at missed) is x = absurd is
missing_order Trip M end (MissingField at missed) is x = absurd is
missing_order Text M end (MissingField at missed) is x = absurd is
missing_order name M end (EntityTooLong at) is x = absurd x
missing_order name M end (Wire fault) is x = absurd x
missing_order name M end (NotText at) is x = absurd x
missing_order name M end Memory is x = absurd x

pub of_header : (bytes : List ℕ) (f : FeedFault) → OfHeader bytes f
    → IsOfHeader f × (order f ≡ length bytes * 4 + 3)
of_header bytes f (inl x) = missing_order Header (Only (whole bytes)) (length bytes) f tt x
of_header bytes f (inr x) =
    missing_order GtfsRealtimeVersion (Inside 1 (Only (whole bytes))) (length bytes) f tt x

pub has_header : (bytes : List ℕ) (f : FeedFault) → OfHeader bytes f → HasFault bytes f
has_header bytes f (inl x) = inr (inr (inl (inr x)))
has_header bytes f (inr x) = inr (inr (inl (inl (inr (inl (inr x))))))

-- ---- a list of fields and what follows

torn_split : (start : ℕ) (fields : List WireField) (front rest : List ℕ) (f : FeedFault) → AreFields front fields
    → IsTorn (from 0 start (front ++ rest)) f → IsTorn (from 0 (start + length front) rest) f
torn_split start fields front rest (Wire fault) read h =
    let b = broken_split fields front rest h.0 fault.kind read h.1 in (b.0, b.2, omega (arith, h.2, b.1))
torn_split start fields front rest (EntityTooLong at) read h = h
torn_split start fields front rest (NotText at) read h = h
torn_split start fields front rest (MissingField at name) read h = h
torn_split start fields front rest Memory read h = h

torn_after : (start : ℕ) (fields : List WireField) (front rest : List ℕ) (f : FeedFault) → AreFields front fields
    → IsTorn (from 0 (start + length front) rest) f → IsTorn (from 0 start (front ++ rest)) f
torn_after start fields front rest (Wire fault) read h =
    (length front + h.0, broken_after fields front rest h.0 fault.kind read h.1, omega (arith, h.2))
torn_after start fields front rest (EntityTooLong at) read h = h
torn_after start fields front rest (NotText at) read h = h
torn_after start fields front rest (MissingField at name) read h = h
torn_after start fields front rest Memory read h = h

pub own_split : (start : ℕ) (fields : List WireField) (front rest : List ℕ) (f : FeedFault) → AreFields front fields
    → Own start (front ++ rest) f → Own start front f ⊎ Own (start + length front) rest f
own_split start fields front rest f read (too_long at long e) =
    elim (long_split fields front rest at read long) [
      | inl here ↦ inl (too_long at here e)
      | inr later ↦
          let place : start + at ≡ start + length front + later.0 = omega (arith, later.1) in
          inr (too_long later.0 later.2 (e ∙ ap EntityTooLong place))
    ]
own_split start fields front rest f read (torn x) = inr (torn (torn_split start fields front rest f read x))
own_split start fields front rest f read (torn_header q st x) =
    elim (stands_split 0 start fields front rest 1 q read st)
    [ inl here ↦ inl (torn_header q here x) | inr later ↦ inr (torn_header q later x) ]
own_split start fields front rest f read (header_text q p st inner x) =
    elim (stands_split 0 start fields front rest 1 q read st)
    [ inl here ↦ inl (header_text q p here inner x) | inr later ↦ inr (header_text q p later inner x) ]
own_split start fields front rest f read (in_entity q st x) =
    elim (stands_split 0 start fields front rest 2 q read st)
    [ inl here ↦ inl (in_entity q here x) | inr later ↦ inr (in_entity q later x) ]

pub own_front : (start : ℕ) (fields : List WireField) (front rest : List ℕ) (f : FeedFault) → AreFields front fields
    → Own start front f → Own start (front ++ rest) f
own_front start fields front rest f read (too_long at long e) = too_long at (long_within front rest at long) e
own_front start fields front rest f read (torn x) = absurd (fields_not_torn (from 0 start front) fields read f x)
own_front start fields front rest f read (torn_header q st x) =
    torn_header q (stands_within 0 start front rest 1 q st) x
own_front start fields front rest f read (header_text q p st inner x) =
    header_text q p (stands_within 0 start front rest 1 q st) inner x
own_front start fields front rest f read (in_entity q st x) = in_entity q (stands_within 0 start front rest 2 q st) x

pub own_after : (start : ℕ) (fields : List WireField) (front rest : List ℕ) (f : FeedFault) → AreFields front fields
    → Own (start + length front) rest f → Own start (front ++ rest) f
own_after start fields front rest f read (too_long at long e) =
    let place : start + length front + at ≡ start + (length front + at) = omega arith in
    too_long (length front + at) (long_after fields front rest at read long) (e ∙ ap EntityTooLong place)
own_after start fields front rest f read (torn x) = torn (torn_after start fields front rest f read x)
own_after start fields front rest f read (torn_header q st x) =
    torn_header q (stands_after 0 start fields front rest 1 q read st) x
own_after start fields front rest f read (header_text q p st inner x) =
    header_text q p (stands_after 0 start fields front rest 1 q read st) inner x
own_after start fields front rest f read (in_entity q st x) =
    in_entity q (stands_after 0 start fields front rest 2 q read st) x

-- ---- the faults of the feed, by those of the rest

place_zero : (far : ℕ) (bytes : List ℕ) (f : FeedFault) → Own far bytes f → Own (0 + far) bytes f
place_zero far bytes f own = let e : far ≡ 0 + far = omega arith in subst (λ (n : ℕ). Own n bytes f) e own

pub zero_place : (far : ℕ) (bytes : List ℕ) (f : FeedFault) → Own (0 + far) bytes f → Own far bytes f
zero_place far bytes f own = let e : 0 + far ≡ far = omega arith in subst (λ (n : ℕ). Own n bytes f) e own

-- after fields without a fault, a fault is one of the rest or of the header
pub own_of_rest : (fields : List WireField) (front rest : List ℕ) (f : FeedFault) → AreFields front fields
    → Faultless front → Own 0 (front ++ rest) f → Own (length front) rest f
own_of_rest fields front rest f read none own =
    elim (own_split 0 fields front rest f read own) [
      | inl here ↦ absurd (own_not_header 0 front f here (none f (has_own front f here)))
      | inr later ↦ zero_place (length front) rest f later
    ]

pub rest_has : (fields : List WireField) (front rest : List ℕ) (f : FeedFault) → AreFields front fields
    → Own (length front) rest f → HasFault (front ++ rest) f
rest_has fields front rest f read own =
    has_own (front ++ rest) f (own_after 0 fields front rest f read (place_zero (length front) rest f own))

pub least_of_rest : (fields : List WireField) (front rest : List ℕ) (f : FeedFault) → AreFields front fields
    → Faultless front → IsLeast (Own (length front) rest) (Some f) → IsFeedFault (front ++ rest) f
least_of_rest fields front rest f read none least = (
  rest_has fields front rest f read least.0,
  λ other has. elim (parts_of (front ++ rest) other has) [
    | inl own ↦ least.1 other (own_of_rest fields front rest other read none own)
    | inr header ↦ omega (
      arith,
      own_below (length front) rest f least.0,
      (of_header (front ++ rest) other header).1,
      length-append front rest,
    )
  ],
)

pub none_of_rest : (fields : List WireField) (front rest : List ℕ) → AreFields front fields → Faultless front
    → ((f : FeedFault) → ¬ Own (length front) rest f) → Faultless (front ++ rest)
none_of_rest fields front rest read none nothing f has =
    elim (parts_of (front ++ rest) f has) [
      | inl own ↦ absurd (nothing f (own_of_rest fields front rest f read none own))
      | inr header ↦ (of_header (front ++ rest) f header).0
    ]

-- the first fault of a list of fields, whatever follows it
pub least_goes_on : (far : ℕ) (fields : List WireField) (front rest : List ℕ) (f : FeedFault) → AreFields front fields
    → IsLeast (Own far front) (Some f) → IsLeast (Own far (front ++ rest)) (Some f)
least_goes_on far fields front rest f read least = (
  own_front far fields front rest f read least.0,
  λ other own. elim (own_split far fields front rest other read own) [
    | inl here ↦ least.1 other here
    | inr later ↦ omega (
      arith,
      own_below far front f least.0,
      own_from (far + length front) rest other later,
    )
  ],
)
