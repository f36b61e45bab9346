-- The fault of a feed is found field by field, from the front: what a reader that gets a feed in pieces relies on.
use Rattle.std.proofs.Common.{◌≡◌, ◌≢◌, ℕ, pos, ◌+◌, ◌-◌, ◌<◌, ◌≤◌, List, [], ◌∷◌, ◌++◌, length, append_assoc, refl, sym, ap, subst, ◌∙◌, inl, inr, arith}
use Rattle.std.proofs.lemmas.List.{append-nil}
use Rattle.std.specs.Prelude.{◌⊎◌, Some, None, IsUtf8}
use Rattle.std.specs.List.{AllByRecursion, AllZip, concat}
use Rattle.gw_base.specs.declared.messages.Entity.{Entity}
use Rattle.gw_base.specs.declared.messages.Feed.{Feed}
use Rattle.gw_base.specs.declared.required.Required.TheVariants.{Header, GtfsRealtimeVersion}
use Rattle.gw_base.specs.declared.wire_kind.WireKind.{WireKind}
use Rattle.gw_base.specs.declared.wire_kind.WireKind.TheVariants.{Truncated}
use Rattle.wire_fields.specs.Grammar.{Bytes, WireField, IsVarint, IsSpelling, AreFields}
use Rattle.wire_fields.specs.Breaks.{IsBroken}
use Rattle.wire_fields.specs.Spelling.{bytes_field}
use Rattle.wire_fields.proofs.Broken.{fields_once}
use Rattle.wire_fields.proofs.Lists.{Concatenates-one, Concatenates-push}
use Rattle.feed_reading.specs.declared.fault.FeedFault.{FeedFault}
use Rattle.feed_reading.specs.declared.fault.FeedFault.TheVariants.{EntityTooLong, Wire, MissingField}
use Rattle.feed_reading.specs.Limits.{entity_limit}
use Rattle.feed_reading.specs.Meaning.{bodies, Means}
use Rattle.feed_reading.specs.Tables.{OfFeedEntity, MeansFeed, with_entity}
use Rattle.feed_reading.specs.Partly.{AreShort}
use Rattle.feed_reading.specs.Known.{entity_known}
use Rattle.feed_reading.specs.Faults.{Piece, whole, Stands, Inside, Only, InSome, IsTorn, IsNotText, Lacks, IsLacking, IsLongAt, HasFault, IsFeedFault, IsLeast}
use Rattle.feed_reading.specs.FieldFaults.{Faultless, moved, place_of}
use Rattle.feed_reading.specs.Found.{Among, SameSet, IsLongHere}
use Rattle.feed_reading.specs.Pieces.{IsHere, InEach}
use Rattle.feed_reading.proofs.Building.{least_feed, means_more}
use Rattle.feed_reading.proofs.FaultLaw.{no_fault_where_meant}
use Rattle.feed_reading.proofs.FaultOrder.{least_same}
use Rattle.feed_reading.proofs.ShortBodies.{short_body}
use Rattle.feed_reading.proofs.PieceSets.{same_turned, same_joined, same_inside, one_listed, missing_same}
use Rattle.feed_reading.proofs.ShortEntities.{short_has_no_fault}
use Rattle.feed_reading.proofs.Walking.{from, none_at_end, stands_on, stands_here, stands_nowhere}
use Rattle.feed_reading.proofs.WholeMessages.{AreWhole, one_whole, inside_whole, whole_joined, whole_unbroken, fields_not_torn, all_lack, first_tag, held_not_missing, texts_clean}
use Rattle.feed_reading.proofs.WholePieces.{bytes_of, same_here}
use Rattle.feed_reading.proofs.FieldFaultsKnown.{each_any}
use Rattle.feed_reading.proofs.FieldFaultsMoved.{own_moved, own_back}
use Rattle.feed_reading.proofs.FieldFaultsOpen.{least_long, least_break, no_long_later}
use Rattle.feed_reading.proofs.FieldFaultsOwn.{Own, too_long, torn, torn_header, header_text, in_entity, OfHeader, parts_of, has_own, has_header, long_place, own_within, own_not_header, own_below, of_header, rest_has, least_of_rest, none_of_rest, least_goes_on}
use Rattle.feed_reading.proofs.FieldFaultsSplit.{holding, IsLongField, long_in_field, long_first, long_split, broken_split}

-- a list of fields that has no fault yet
pub record Clear (front : List ℕ) : Type 0 where
  pub fields : List WireField
  pub read : AreFields front fields
  pub faultless : Faultless front

-- the body of a field of this number that stands after so many bytes
pub record IsBodyAfter (far number : ℕ) (spelling : List ℕ) (piece : Piece) : Type 0 where
  pub spelled : IsSpelling 64 (record { number = number; payload = Bytes piece.bytes }) spelling
  pub tag : piece.tag ≡ far
  pub start : piece.start + length piece.bytes ≡ far + length spelling

-- the faults of a header's piece
abbrev pub InHeader : Piece → FeedFault → Type 0
InHeader piece fault = IsTorn piece fault ⊎ InSome (Inside 1 (Only piece)) IsNotText fault

-- a field that is neither a header nor an entity
abbrev pub IsOther : WireField → Type 0
IsOther field = (body : List ℕ) → field.payload ≡ Bytes body → (field.number ≢ 1) × (field.number ≢ 2)

-- ---- what stands in one field

alone : (field : WireField) (spelling : List ℕ) → IsSpelling 64 field spelling → AreFields spelling (field ∷ [])
alone field spelling spelled = Concatenates-one (IsSpelling 64) field spelling spelled

here_of : (far : ℕ) (spelling : List ℕ) (field : WireField) (number : ℕ) (q : Piece) → IsSpelling 64 field spelling
    → Stands (from 0 far spelling) number q → IsHere field far (far + length spelling) number q
here_of far spelling field number q spelled st =
    elim (stands_on 0 far spelling [] field number q spelled
    (subst (λ (b : List ℕ). Stands (from 0 far b) number q) (sym (append-nil spelling)) st)) [
      | inl here ↦ here
      | inr later ↦ absurd (stands_nowhere (from 0 (far + length spelling) []) number q none_at_end later)
    ]

stands_of : (far : ℕ) (spelling : List ℕ) (field : WireField) (number : ℕ) (q : Piece) → IsSpelling 64 field spelling
    → IsHere field far (far + length spelling) number q → Stands (from 0 far spelling) number q
stands_of far spelling field number q spelled here =
    subst (λ (b : List ℕ). Stands (from 0 far b) number q) (append-nil spelling)
    (stands_here 0 far spelling [] field number q spelled here)

body_here : (far number : ℕ) (spelling : List ℕ) (piece : Piece) → IsBodyAfter far number spelling piece
    → IsHere (holding number (Bytes piece.bytes)) far (far + length spelling) number piece
body_here far number spelling piece h = record { is = refl; tag = h.tag; start_is = h.start }

-- the field's number, and which piece it is
number_of : (far : ℕ) (spelling : List ℕ) (field : WireField) (number : ℕ) (q : Piece) → IsSpelling 64 field spelling
    → Stands (from 0 far spelling) number q → number ≡ field.number
number_of far spelling field number q spelled st =
    ap (λ (f : WireField). f.number) (here_of far spelling field number q spelled st).is

piece_is : (far number : ℕ) (spelling : List ℕ) (piece q : Piece) → IsBodyAfter far number spelling piece
    → Stands (from 0 far spelling) number q → q ≡ piece
piece_is far number spelling piece q h st =
    same_here number far (far + length spelling) (holding number (Bytes piece.bytes)) q piece
    (here_of far spelling (holding number (Bytes piece.bytes)) number q h.spelled st)
    (body_here far number spelling piece h)

long_field : (spelling : List ℕ) (field : WireField) (at : ℕ) → IsSpelling 64 field spelling → IsLongAt spelling at
    → IsLongField field
long_field spelling field at spelled long =
    let moved = subst (λ (b : List ℕ). IsLongAt b at) (sym (append-nil spelling)) long in
    elim (long_first spelling [] field at moved.fields spelled moved moved.read) [
      | inl here ↦ (long_in_field spelling [] field spelled here.1).0
      | inr later ↦ absurd (omega (arith, long_place [] later.0 later.2))
    ]

same_body : (a b : List ℕ) → Bytes a ≡ Bytes b → a ≡ b
same_body a b e = cc

-- an entity that isn't too long
not_long : (spelling body : List ℕ) (at : ℕ) → IsSpelling 64 (holding 2 (Bytes body)) spelling
    → length body ≤ entity_limit → IsLongAt spelling at → ⊥
not_long spelling body at spelled short long =
    let l = long_field spelling (holding 2 (Bytes body)) at spelled long in
    let same = same_body body l.body (ap (λ (f : WireField). f.payload) l.is) in
    omega (arith, l.long, short, ap length same)

one_two : (number : ℕ) → number ≡ 1 → number ≡ 2 → ⊥
one_two number one two = omega arith

-- ---- the faults of an entity, of a header and of another field

entity_from : (far : ℕ) (spelling : List ℕ) (piece : Piece) (f : FeedFault) → IsBodyAfter far 2 spelling piece
    → length piece.bytes ≤ entity_limit → Own far spelling f → InEach entity_known 0 piece f
entity_from far spelling piece f h short (too_long at long e) =
    absurd (not_long spelling piece.bytes at h.spelled short long)
entity_from far spelling piece f h short (torn x) =
    absurd (fields_not_torn (from 0 far spelling) (holding 2 (Bytes piece.bytes) ∷ [])
    (alone (holding 2 (Bytes piece.bytes)) spelling h.spelled) f x)
entity_from far spelling piece f h short (torn_header q st x) =
    absurd (one_two 1 refl (number_of far spelling (holding 2 (Bytes piece.bytes)) 1 q h.spelled st))
entity_from far spelling piece f h short (header_text q p st inner x) =
    absurd (one_two 1 refl (number_of far spelling (holding 2 (Bytes piece.bytes)) 1 q h.spelled st))
entity_from far spelling piece f h short (in_entity q st x) =
    subst (λ (p : Piece). InEach entity_known 0 p f) (piece_is far 2 spelling piece q h st) x

entity_to : (far : ℕ) (spelling : List ℕ) (piece : Piece) (f : FeedFault) → IsBodyAfter far 2 spelling piece
    → InEach entity_known 0 piece f → Own far spelling f
entity_to far spelling piece f h x =
    in_entity piece
    (stands_of far spelling (holding 2 (Bytes piece.bytes)) 2 piece h.spelled (body_here far 2 spelling piece h)) x

header_from : (far : ℕ) (spelling : List ℕ) (piece : Piece) (f : FeedFault) → IsBodyAfter far 1 spelling piece
    → Own far spelling f → InHeader piece f
header_from far spelling piece f h (too_long at long e) =
    let l = long_field spelling (holding 1 (Bytes piece.bytes)) at h.spelled long in
    absurd (one_two 1 refl (ap (λ (f : WireField). f.number) l.is))
header_from far spelling piece f h (torn x) =
    absurd (fields_not_torn (from 0 far spelling) (holding 1 (Bytes piece.bytes) ∷ [])
    (alone (holding 1 (Bytes piece.bytes)) spelling h.spelled) f x)
header_from far spelling piece f h (torn_header q st x) =
    inl (subst (λ (p : Piece). IsTorn p f) (piece_is far 1 spelling piece q h st) x)
header_from far spelling piece f h (header_text q p st inner x) =
    inr (p, (q, piece_is far 1 spelling piece q h st, inner), x)
header_from far spelling piece f h (in_entity q st x) =
    absurd (one_two 2 (number_of far spelling (holding 1 (Bytes piece.bytes)) 2 q h.spelled st) refl)

header_to : (far : ℕ) (spelling : List ℕ) (piece : Piece) (f : FeedFault) → IsBodyAfter far 1 spelling piece
    → InHeader piece f → Own far spelling f
header_to far spelling piece f h (inl x) =
    torn_header piece
    (stands_of far spelling (holding 1 (Bytes piece.bytes)) 1 piece h.spelled (body_here far 1 spelling piece h)) x
header_to far spelling piece f h (inr x) =
    header_text piece x.0
    (stands_of far spelling (holding 1 (Bytes piece.bytes)) 1 piece h.spelled (body_here far 1 spelling piece h))
    (subst (λ (o : Piece). Stands o 1 x.0) x.1.1 x.1.2) x.2

none_in_other : (far : ℕ) (spelling : List ℕ) (field : WireField) → IsSpelling 64 field spelling → IsOther field
    → (f : FeedFault) → Own far spelling f → ⊥
none_in_other far spelling field spelled other f (too_long at long e) =
    let l = long_field spelling field at spelled long in
    (other l.body (ap (λ (f : WireField). f.payload) l.is)).1 (ap (λ (f : WireField). f.number) l.is)
none_in_other far spelling field spelled other f (torn x) =
    fields_not_torn (from 0 far spelling) (field ∷ []) (alone field spelling spelled) f x
none_in_other far spelling field spelled other f (torn_header q st x) =
    let here = here_of far spelling field 1 q spelled st in
    (other q.bytes (sym (ap (λ (f : WireField). f.payload) here.is))).0 (sym (ap (λ (f : WireField). f.number) here.is))
none_in_other far spelling field spelled other f (header_text q p st inner x) =
    let here = here_of far spelling field 1 q spelled st in
    (other q.bytes (sym (ap (λ (f : WireField). f.payload) here.is))).0 (sym (ap (λ (f : WireField). f.number) here.is))
none_in_other far spelling field spelled other f (in_entity q st x) =
    let here = here_of far spelling field 2 q spelled st in
    (other q.bytes (sym (ap (λ (f : WireField). f.payload) here.is))).1 (sym (ap (λ (f : WireField). f.number) here.is))

-- ---- where the faults of a field are told

pub entity_place : (far end : ℕ) (spelling : List ℕ) (piece : Piece) (f : FeedFault) → IsBodyAfter far 2 spelling piece
    → InEach entity_known end piece f → (far ≤ place_of f) × (place_of f < far + length spelling)
entity_place far end spelling piece f h x =
    let w = own_within far spelling f (entity_to far spelling piece f h (each_any end 0 piece f x)) in
    (w.from_low, w.below)

pub header_place : (far : ℕ) (spelling : List ℕ) (piece : Piece) (f : FeedFault) → IsBodyAfter far 1 spelling piece
    → InHeader piece f → (far ≤ place_of f) × (place_of f < far + length spelling)
header_place far spelling piece f h x =
    let w = own_within far spelling f (header_to far spelling piece f h x) in (w.from_low, w.below)

-- ---- no fault yet

pub faultless_nothing : Faultless []
faultless_nothing f has =
    elim (parts_of [] f has) [
      | inl own ↦ absurd (omega (arith, own_below 0 [] f own))
      | inr header ↦ (of_header [] f header).0
    ]

clear_more : (front spelling : List ℕ) (field : WireField) → Clear front → IsSpelling 64 field spelling
    → ((f : FeedFault) → ¬ Own (length front) spelling f) → Clear (front ++ spelling)
clear_more front spelling field h spelled none = record {
  fields = h.fields ++ field ∷ [];
  read = Concatenates-push (IsSpelling 64) h.fields field front spelling h.read spelled;
  faultless = none_of_rest h.fields front spelling h.read h.faultless none;
}

pub other_clear : (front spelling : List ℕ) (field : WireField) → Clear front → IsSpelling 64 field spelling
    → IsOther field → Clear (front ++ spelling)
other_clear front spelling field h spelled other =
    clear_more front spelling field h spelled (none_in_other (length front) spelling field spelled other)

-- the body of a field, as a piece
abbrev piece_after : ℕ → List ℕ → List ℕ → Piece
piece_after far spelling body = record { tag = far; start = far + length spelling - length body; bytes = body }

body_after : (far number : ℕ) (spelling body : List ℕ) → IsSpelling 64 (holding number (Bytes body)) spelling
    → IsBodyAfter far number spelling (piece_after far spelling body)
body_after far number spelling body spelled =
    let fits : length body ≤ length spelling =
    short_body (length spelling) number (Bytes body) spelling spelled (omega arith) in
    record { spelled = spelled; tag = refl; start = omega arith }

clean_header : (piece : Piece) (inner : List WireField) → AreFields piece.bytes inner
    → AllByRecursion IsUtf8 (bodies 1 inner) → (f : FeedFault) → InHeader piece f → ⊥
clean_header piece inner read texts f (inl x) = fields_not_torn piece inner read f x
clean_header piece inner read texts f (inr x) =
    texts_clean 1 (piece ∷ []) inner (one_whole piece inner read) texts f
    (x.0, (same_inside 1 (one_listed piece)).to x.0 x.1, x.2)

pub header_clear : (front spelling body : List ℕ) (inner : List WireField) → Clear front
    → IsSpelling 64 (record { number = 1; payload = Bytes body }) spelling → AreFields body inner
    → AllByRecursion IsUtf8 (bodies 1 inner) → Clear (front ++ spelling)
header_clear front spelling body inner h spelled read texts =
    let piece = piece_after (length front) spelling body in
    let after = body_after (length front) 1 spelling body spelled in
    clear_more front spelling (holding 1 (Bytes body)) h spelled
    (λ f own. clean_header piece inner read texts f (header_from (length front) spelling piece f after own))

-- some feed without entities
abbrev AnyFeed : Type 0
AnyFeed = (bytes : List ℕ) × (feed : Feed) × MeansFeed bytes feed × ((at : ℕ) → ¬ IsLongAt bytes at)

no_entities : (bodies : List (List ℕ)) → AllZip (Means OfFeedEntity) bodies [] → AreShort bodies
no_entities [] h = tt
no_entities (body ∷ bodies) h = absurd h

any_feed : AnyFeed
any_feed =
    let bytes = bytes_field 1 (bytes_field 1 []) in
    let feed : Feed = record { version = []; incrementality = pos 0; timestamp = None; entities = [] } in
    let h = least_feed in
    let short = no_entities (bodies 2 h.fields) h.table.entity in
    let none = short_has_no_fault bytes feed (record { fields = h.fields; read = h.read; table = (h.table, short) }) in
    (bytes, feed, h, λ at long. none (EntityTooLong at) (inl long))

-- an entity after it has no fault
none_in_entity : (spelling body : List ℕ) (entity : Entity) → IsSpelling 64 (holding 2 (Bytes body)) spelling
    → length body ≤ entity_limit → Means OfFeedEntity body entity → (f : FeedFault) → Own 0 spelling f → ⊥
none_in_entity spelling body entity spelled short means f own =
    let any = any_feed in
    let read = any.2.read in
    let feed = means_more any.0 spelling any.1 entity any.2
    (record { body = body; field = alone (holding 2 (Bytes body)) spelling spelled; means = means }) in
    let none_long : (at : ℕ) → ¬ IsLongAt (any.0 ++ spelling) at =
    λ at long. elim (long_split any.2.fields any.0 spelling at read long) [
      | inl here ↦ any.3 at here
      | inr later ↦ not_long spelling body later.0 spelled short later.2
    ] in
    no_fault_where_meant (any.0 ++ spelling) (with_entity any.1 entity) feed none_long (moved (length any.0) f)
    (rest_has any.2.fields any.0 spelling (moved (length any.0) f) read (own_moved (length any.0) spelling f own))

pub entity_clear : (front spelling body : List ℕ) (entity : Entity) → Clear front
    → IsSpelling 64 (record { number = 2; payload = Bytes body }) spelling → length body ≤ entity_limit
    → Means OfFeedEntity body entity → Clear (front ++ spelling)
entity_clear front spelling body entity h spelled short means =
    clear_more front spelling (holding 2 (Bytes body)) h spelled
    (λ f own. let near = own_back (length front) spelling f own in
    none_in_entity spelling body entity spelled short means near.0 near.1)

-- ---- the first fault, whatever follows

field_faulty : (front spelling more : List ℕ) (field : WireField) (fault : FeedFault) → Clear front
    → IsSpelling 64 field spelling → IsLeast (Own (length front) spelling) (Some fault)
    → IsFeedFault (front ++ (spelling ++ more)) fault
field_faulty front spelling more field fault h spelled least =
    least_of_rest h.fields front (spelling ++ more) fault h.read h.faultless
    (least_goes_on (length front) (field ∷ []) spelling more fault (alone field spelling spelled) least)

pub entity_faulty : (front spelling more : List ℕ) (piece : Piece) (end : ℕ) (fault : FeedFault) → Clear front
    → IsBodyAfter (length front) 2 spelling piece → length piece.bytes ≤ entity_limit
    → IsLeast (InEach entity_known end piece) (Some fault) → IsFeedFault (front ++ (spelling ++ more)) fault
entity_faulty front spelling more piece end fault h body short least =
    field_faulty front spelling more (holding 2 (Bytes piece.bytes)) fault h body.spelled
    (least_same (InEach entity_known end piece) (Own (length front) spelling)
    (λ f x. entity_to (length front) spelling piece f body (each_any end 0 piece f x))
    (λ f own. each_any 0 end piece f (entity_from (length front) spelling piece f body short own)) (Some fault) least)

pub header_faulty : (front spelling more : List ℕ) (piece : Piece) (fault : FeedFault) → Clear front
    → IsBodyAfter (length front) 1 spelling piece → IsLeast (InHeader piece) (Some fault)
    → IsFeedFault (front ++ (spelling ++ more)) fault
header_faulty front spelling more piece fault h body least =
    field_faulty front spelling more (holding 1 (Bytes piece.bytes)) fault h body.spelled
    (least_same (InHeader piece) (Own (length front) spelling)
    (λ f x. header_to (length front) spelling piece f body x)
    (λ f own. header_from (length front) spelling piece f body own) (Some fault) least)

pub entity_long : (front tag size more : List ℕ) (len : ℕ) → Clear front → IsVarint tag 18 → IsVarint size len
    → entity_limit < len → IsFeedFault (front ++ (tag ++ (size ++ more))) (EntityTooLong (length front))
entity_long front tag size more len h tagged sized long =
    least_of_rest h.fields front (tag ++ (size ++ more)) (EntityTooLong (length front)) h.read h.faultless
    (least_long (length front) (tag ++ (size ++ more)) (record {
      tag = tag;
      size = size;
      rest = more;
      joined = refl;
      tagged = tagged;
      len = len;
      sized = sized;
      long = long;
    }))

-- the rest breaks at once
rest_broken : (front rest : List ℕ) (kind : WireKind) → Clear front → IsBroken (front ++ rest) (length front) kind
    → IsBroken rest 0 kind
rest_broken front rest kind h broken =
    let b = broken_split h.fields front rest (length front) kind h.read broken in
    let zero : b.0 ≡ 0 = omega (arith, b.1) in subst (λ (n : ℕ). IsBroken rest n kind) zero b.2

pub broken_at_end : (bytes front rest : List ℕ) (kind : WireKind) → Clear front → bytes ≡ front ++ rest
    → IsBroken bytes (length front) kind → ¬ IsLongHere rest
    → IsFeedFault bytes (Wire (record { at = length front; kind = kind }))
broken_at_end bytes front rest kind h joined broken short =
    let fault = Wire (record { at = length front; kind = kind }) in
    let b = rest_broken front rest kind h (subst (λ (l : List ℕ). IsBroken l (length front) kind) joined broken) in
    subst (λ (l : List ℕ). IsFeedFault l fault) (sym joined)
    (least_of_rest h.fields front rest fault h.read h.faultless (least_break (length front) rest kind b short))

-- bytes that break in another way than that they end too early, and break in this way whatever follows (wire_fields,
-- `a_break_stays_law`)
pub broken_stays : (bytes front rest more : List ℕ) (kind : WireKind) → Clear front → bytes ≡ front ++ rest
    → IsBroken bytes (length front) kind → kind ≢ Truncated → IsBroken (bytes ++ more) (length front) kind
    → IsFeedFault (bytes ++ more) (Wire (record { at = length front; kind = kind }))
broken_stays bytes front rest more kind h joined broken ne stays =
    let b = rest_broken front rest kind h (subst (λ (l : List ℕ). IsBroken l (length front) kind) joined broken) in
    broken_at_end (bytes ++ more) front (rest ++ more) kind h
    (ap (λ (l : List ℕ). l ++ more) joined ∙ append_assoc front rest more) stays (no_long_later rest more kind b ne)

-- ---- at the end of the feed

of_end : (bytes : List ℕ) (fault : FeedFault) → Faultless bytes → OfHeader bytes fault → IsFeedFault bytes fault
of_end bytes fault none missing = (
  has_header bytes fault missing,
  λ other has. elim (parts_of bytes other has) [
    | inl own ↦ absurd (own_not_header 0 bytes other own (none other has))
    | inr header ↦ omega (arith, (of_header bytes fault missing).1, (of_header bytes other header).1)
  ],
)

pub missing_header : (bytes : List ℕ) (fields : List WireField) → AreFields bytes fields → Faultless bytes
    → bodies 1 fields ≡ [] → IsFeedFault bytes (MissingField (length bytes) Header)
missing_header bytes fields read none lacks =
    let lacking : IsLacking 1 (Only (whole bytes)) 0 = record {
      piece = whole bytes;
      among = refl;
      here = refl;
      least = λ other e. omega arith;
      lacks = λ other e. subst (λ (p : Piece). Lacks 1 p) (sym e) (fields, read, lacks);
    } in
    of_end bytes (MissingField (length bytes) Header) none (inl (0, lacking, refl, refl))

-- the headers of a feed, each a list of fields, and all of them together
record AreHeaders (bytes : List ℕ) (fields inner : List WireField) : Type 0 where
  pieces : List Piece
  same_bytes : bytes_of pieces ≡ bodies 1 fields
  set : SameSet (Among pieces) (Inside 1 (Only (whole bytes)))
  whole_ones : AreWhole pieces inner

headers : (bytes : List ℕ) (fields inner : List WireField) → AreFields bytes fields → Faultless bytes
    → AreFields (concat (bodies 1 fields)) inner → AreHeaders bytes fields inner
headers bytes fields inner read none joined =
    let l = inside_whole 1 (whole bytes ∷ []) fields (one_whole (whole bytes) fields read) in
    let set = same_joined (same_turned l.set) (same_turned (same_inside 1 (one_listed (whole bytes)))) in
    let unbroken : (f : FeedFault) → ¬ InSome (Among l.inner) IsTorn f =
    λ f x.
    let inside = set.to x.0 x.1 in
    let own : Own 0 bytes f = torn_header x.0 (subst (λ (o : Piece). Stands o 1 x.0) inside.1 inside.2) x.2 in
    own_not_header 0 bytes f own (none f (has_own bytes f own))
    in
    let found = whole_unbroken l.inner unbroken in
    let all = subst (λ (bs : List (List ℕ)). AreFields (concat bs) found.0) l.same_bytes
    (whole_joined l.inner found.0 found.1) in
    let same = fields_once (concat (bodies 1 fields)) found.0 inner all joined in
    record {
      pieces = l.inner;
      same_bytes = l.same_bytes;
      set = set;
      whole_ones = subst (λ (fs : List WireField). AreWhole l.inner fs) same found.1;
    }

lacking_among : (pieces : List Piece) → bytes_of pieces ≢ [] → ((p : Piece) → Among pieces p → Lacks 1 p)
    → (first : ℕ) × IsLacking 1 (Among pieces) first
lacking_among [] some lack = absurd (some refl)
lacking_among (piece ∷ pieces) some lack =
    let t = first_tag piece pieces in
    (t.0.tag, record { piece = t.0; among = t.1; here = refl; least = t.2; lacks = lack })

-- the fields of all headers together are these
pub missing_version : (bytes : List ℕ) (fields inner : List WireField) → AreFields bytes fields → Faultless bytes
    → bodies 1 fields ≢ [] → AreFields (concat (bodies 1 fields)) inner → bodies 1 inner ≡ []
    → IsFeedFault bytes (MissingField (length bytes) GtfsRealtimeVersion)
missing_version bytes fields inner read none some joined lacks =
    let h = headers bytes fields inner read none joined in
    let l = lacking_among h.pieces (λ e. some (sym h.same_bytes ∙ e)) (all_lack 1 h.pieces inner h.whole_ones lacks) in
    let fault = MissingField (length bytes) GtfsRealtimeVersion in
    of_end bytes fault none
    (inr (missing_same 1 (Some GtfsRealtimeVersion) (length bytes) h.set fault (l.0, l.1, refl, refl)))

pub nothing_missing : (bytes : List ℕ) (fields inner : List WireField) → AreFields bytes fields → Faultless bytes
    → bodies 1 fields ≢ [] → AreFields (concat (bodies 1 fields)) inner → bodies 1 inner ≢ []
    → (fault : FeedFault) → ¬ HasFault bytes fault
nothing_missing bytes fields inner read none some joined held fault has =
    let h = headers bytes fields inner read none joined in
    elim (parts_of bytes fault has) [
      | inl own ↦ own_not_header 0 bytes fault own (none fault has)
      | inr missing ↦ elim missing [
        | inl header ↦ held_not_missing 1 (length bytes) (Some Header) (whole bytes ∷ []) fields
            (one_whole (whole bytes) fields read) some fault
            (missing_same 1 (Some Header) (length bytes) (one_listed (whole bytes)) fault header)
        | inr version ↦ held_not_missing 1 (length bytes) (Some GtfsRealtimeVersion) h.pieces inner h.whole_ones held
            fault
            (missing_same 1 (Some GtfsRealtimeVersion) (length bytes) (same_turned h.set) fault version)
      ]
    ]
