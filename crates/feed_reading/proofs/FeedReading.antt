-- How a reader of a feed in pieces goes on, where it stands for the bytes so far.
use Rattle.std.proofs.Common.{◌≡◌, ◌≢◌, ◌==◌, ◌&&◌, ℕ, ◌+◌, ◌-◌, ◌*◌, ◌<◌, ◌≤◌, Bool, true, false, List, [], ◌∷◌, ◌++◌, length, take, drop, nat_lt, length-append, append_assoc, refl, sym, ap, subst, ◌∙◌, inl, inr, arith, eqb-true, eq-eqb}
use Rattle.std.proofs.Math.Seq.{take-append_seam, drop-append_seam}
use Rattle.std.proofs.lemmas.Bool.{cases_lt, ltb-true, ltb-false, ne_eqb}
use Rattle.std.proofs.lemmas.List.{append-nil, nil_from_length}
use Rattle.std.specs.Prelude.{◌⊎◌, Option, Some, None, is_some, MatchBool, if◌then◌else◌}
use Rattle.gw_base.specs.declared.messages.Entity.{Entity}
use Rattle.gw_base.specs.declared.wire_kind.WireKind.TheVariants.{Truncated}
use Rattle.wire_fields.specs.declared.field.WireFault.{WireFault}
use Rattle.wire_fields.specs.declared.top.part.Part.{Part}
use Rattle.wire_fields.specs.declared.top.part.Part.TheVariants as parts
use Rattle.wire_fields.specs.Grammar.{Payload, Varint, Fixed64, Bytes, Group, Fixed32, WireField, IsVarint, IsSpelling, AreFields}
use Rattle.wire_fields.specs.Breaks.{IsBroken}
use Rattle.wire_fields.specs.OpenGroups.{IsOpen}
use Rattle.wire_fields.specs.TopReading as tops
use Rattle.wire_fields.specs.TopReading.{Top, Between, InField, Elsewhere, IsInNoField, EndsWith, EndsWithBytes, HasMore, HasBegun, HasPart, HasOther, place_left}
use Rattle.wire_fields.proofs.Lists.{Concatenates-push}
use Rattle.wire_fields.proofs.Stays.{broken_stays, further}
use Rattle.feed_reading.specs.declared.fault.FeedFault.{FeedFault}
use Rattle.feed_reading.specs.declared.fault.FeedFault.TheVariants.{EntityTooLong, Wire}
use Rattle.feed_reading.specs.declared.feed_reader.state.Body.{Body}
use Rattle.feed_reading.specs.declared.feed_reader.state.Body.TheVariants as bodies
use Rattle.feed_reading.specs.declared.feed_reader.state.HeadSoFar.{HeadSoFar}
use Rattle.feed_reading.specs.Faults.{IsFeedFault}
use Rattle.feed_reading.specs.FieldFaults.{Faultless, place_of}
use Rattle.feed_reading.specs.FeedPieces.{Seen, OfHeadSoFar, HoldsBody, ReadsOn, StopsAtFault, StandsFor}
use Rattle.feed_reading.specs.FeedSteps.{head_after, body_of, stepped, with_body, holding, between, body_piece, EndsHeader, EndsEntity, ProceedsBy, Proceeds, Begins, Ends}
use Rattle.feed_reading.specs.Limits.{entity_limit}
use Rattle.feed_reading.specs.Meaning.{body_in, AreBodies, IsJoined, IsMessage, AreMessages}
use Rattle.feed_reading.specs.Tables.{OfFeedEntity}
use Rattle.feed_reading.proofs.FieldFaults as faults
use Rattle.feed_reading.proofs.FieldFaults.{Clear, IsBodyAfter, faultless_nothing, entity_place, header_place, other_clear, header_clear, entity_clear, entity_faulty, header_faulty, entity_long}
use Rattle.feed_reading.proofs.FieldFaultsSplit.{fields_before}
use Rattle.feed_reading.proofs.HeadsSoFar.{head_more}
use Rattle.feed_reading.proofs.OneMore.{held_same, holds, messages_new, messages_same}
use Rattle.feed_reading.proofs.ShortBodies.{short_body}

-- ---- parts of bytes

pub same_parts : (a b c d : List ℕ) → a ++ b ≡ c ++ d → length a ≡ length c → (a ≡ c) × (b ≡ d)
same_parts a b c d e len = (
  sym (take-append_seam a b) ∙ ap (λ (l : List ℕ). take (length a) l) e ∙ ap (λ (n : ℕ). take n (c ++ d)) len
      ∙ take-append_seam c d,
  sym (drop-append_seam a b) ∙ ap (λ (l : List ℕ). drop (length a) l) e ∙ ap (λ (n : ℕ). drop n (c ++ d)) len
      ∙ drop-append_seam c d,
)

same_ends : (a b c d : List ℕ) → a ++ b ≡ c ++ d → length b ≡ length d → b ≡ d
same_ends a b c d e len =
    let sum = ap length e in
    let same : length a ≡ length c = omega (arith, sum, length-append a b, length-append c d) in
    (same_parts a b c d e same).1

-- ---- where the top level stands

between_by : (at : ℕ) (groups : List ℕ) (part : Part) (now : List ℕ) → tops.Stands at groups (tops.IsPart part) now
    → tops.place_in groups part ≡ Between → at ≡ length now
unfolding IsOpen
between_by at [] parts.Nothing now s e =
    let run : length s.run ≡ 0 = ap length s.walked.is_open.0 in
    let tail : length s.tail ≡ 0 = ap length s.ends in
    omega (arith, s.place, ap length s.joined, length-append s.front (s.run ++ s.tail), length-append s.run s.tail)
between_by at [] (parts.Tag chain) now s e = absurd cc
between_by at [] (parts.Value chain) now s e = absurd cc
between_by at [] (parts.Size number chain) now s e = absurd cc
between_by at [] (parts.Payload number len left) now s e = absurd cc
between_by at [] (parts.Eight left) now s e = absurd cc
between_by at [] (parts.Four left) now s e = absurd cc
between_by at (number ∷ groups) part now s e = absurd cc

pub between_at : (top : Top) (now : List ℕ) → tops.StandsFor top now → tops.place_of top ≡ Between
    → top.at ≡ length now
between_at top now s e = between_by top.at top.groups top.part now s.1 e

between_none : (top : Top) → tops.place_of top ≡ Between → IsInNoField top
between_none top e number len left f = let d = sym e ∙ f in absurd cc

elsewhere_none : (top : Top) → tops.place_of top ≡ Elsewhere → IsInNoField top
elsewhere_none top e number len left f = let d = sym e ∙ f in absurd cc

left_more : (number len left : ℕ) → 0 < left → place_left number len left ≡ InField number len left
left_more number len left some =
    let not_zero : (left ≡ 0) → ⊥ = λ e. omega arith in
    ap (λ (b : Bool). if b then Between else InField number len left) (ne_eqb left 0 not_zero)

left_none : (number len left : ℕ) → left ≡ 0 → place_left number len left ≡ Between
left_none number len left e = ap (place_left number len) e

pub in_field_once : (number other len size left rest : ℕ) → InField number len left ≡ InField other size rest
    → (number ≡ other) × (len ≡ size) × (left ≡ rest)
in_field_once number other len size left rest e = (cc, cc, cc)

-- a body is kept where no field with bytes was open, nor is
nothing_kept : (body : Body) (top : Top) (begun held : List ℕ) → HoldsBody body top begun held → IsInNoField top
    → (body ≡ bodies.Other) × (held ≡ [])
nothing_kept bodies.Other top begun held h none = (refl, h.0)
nothing_kept (bodies.Header at len) top begun held h none = absurd (none 1 len h.left h.place)
nothing_kept (bodies.Entity at len) top begun held h none = absurd (none 2 len h.0.left h.0.place)

holds_nothing : (body : Body) (top : Top) (begun held : List ℕ) → body ≡ bodies.Other → held ≡ [] → IsInNoField top
    → HoldsBody body top begun held
holds_nothing body top begun held other empty none =
    subst (λ (b : Body). HoldsBody b top begun held) (sym other)
    (empty, λ number len left e. absurd (none number len left e))

-- ---- the fields so far, and one more

holds_not : (number : ℕ) (field : WireField) → field.number ≢ number → holds body_in number field ≡ None
holds_not number field differs =
    ap (λ (b : Bool). if b then body_in field.payload else None) (ne_eqb field.number number differs)

no_body : (payload : Payload) → ((body : List ℕ) → payload ≢ Bytes body) → body_in payload ≡ None
no_body (Varint value) plain = refl
no_body (Fixed64 value) plain = refl
no_body (Bytes body) plain = absurd (plain body refl)
no_body Group plain = refl
no_body (Fixed32 value) plain = refl

by_bool : (b : Bool) (found : Option (List ℕ)) → found ≡ None → (if b then found else None) ≡ None
by_bool true found e = e
by_bool false found e = refl

holds_none : (number : ℕ) (field : WireField) → ((body : List ℕ) → field.payload ≢ Bytes body)
    → holds body_in number field ≡ None
holds_none number field plain = by_bool (field.number == number) (body_in field.payload) (no_body field.payload plain)

message_same : {M : Type 0} (Table : List WireField → M → Type 0) (number : ℕ) (fields : List WireField)
    (field : WireField) (message : Option M) → holds body_in number field ≡ None → IsMessage Table number fields message
    → IsMessage Table number (fields ++ field ∷ []) message
message_same Table number fields field message e known =
    subst (λ (bs : List (List ℕ)). AreBodies bs × IsJoined Table bs message)
    (sym (held_same body_in number fields field e)) known

-- all bytes are fields
whole_reads : (s : Seen) (now : List ℕ) (given : List Entity) (fields : List WireField) → s.fault ≡ None
    → AreFields now fields → Faultless now → AreMessages OfFeedEntity 2 fields given
    → IsMessage OfHeadSoFar 1 fields s.head → tops.StandsFor s.top now → tops.place_of s.top ≡ Between
    → s.body ≡ bodies.Other → s.held ≡ [] → ReadsOn s now given
whole_reads s now given fields none read clear entities head top at_end body held = record {
  no_fault = none;
  front = now;
  begun = [];
  joined = sym (append-nil now);
  fields = fields;
  read = read;
  faultless = clear;
  entities = entities;
  head = head;
  place = between_at s.top now top at_end;
  top = top;
  body = holds_nothing s.body s.top [] s.held body held (between_none s.top at_end);
}

-- the field of this number, place and body ends here
pub record IsEnding (s : Seen) (number at : ℕ) (body now : List ℕ) (given : List Entity) : Type 0 where
  pub front : List ℕ
  pub begun : List ℕ
  pub joined : now ≡ front ++ begun
  pub fields : List WireField
  pub read : AreFields front fields
  pub faultless : Faultless front
  pub entities : AreMessages OfFeedEntity 2 fields given
  pub head : IsMessage OfHeadSoFar 1 fields s.head
  pub taken : s.taken ≡ length now
  pub counted : s.given ≡ length given
  pub no_fault : s.fault ≡ None
  pub place : at ≡ length front
  pub spelled : IsSpelling 64 (record { number = number; payload = Bytes body }) begun
  pub top : tops.StandsFor s.top now
  pub at_end : tops.place_of s.top ≡ Between

-- the reader after it
abbrev done : Seen → ℕ → Option HeadSoFar → Seen
done s given head = record {
  taken = s.taken;
  given = given;
  top = s.top;
  body = bodies.Other;
  held = [];
  head = head;
  fault = s.fault;
}

clear_of : (front : List ℕ) (fields : List WireField) → AreFields front fields → Faultless front → Clear front
clear_of front fields read none = record { fields = fields; read = read; faultless = none }

pushed : (front begun now : List ℕ) (fields : List WireField) (field : WireField) → now ≡ front ++ begun
    → AreFields front fields → IsSpelling 64 field begun → AreFields now (fields ++ field ∷ [])
pushed front begun now fields field joined read spelled =
    subst (λ (b : List ℕ). AreFields b (fields ++ field ∷ [])) (sym joined)
    (Concatenates-push (IsSpelling 64) fields field front begun read spelled)

ended_well : (s : Seen) (number at : ℕ) (body now : List ℕ) (given more : List Entity) (count : ℕ)
    (head : Option HeadSoFar) → (h : IsEnding s number at body now given) → Clear (h.front ++ h.begun)
    → AreMessages OfFeedEntity 2 (h.fields ++ (record { number = number; payload = Bytes body }) ∷ []) more
    → IsMessage OfHeadSoFar 1 (h.fields ++ (record { number = number; payload = Bytes body }) ∷ []) head
    → count ≡ length more → StandsFor (done s count head) now more
ended_well s number at body now given more count head h clear entities known counted = record {
  taken = h.taken;
  counted = counted;
  stands = inl (whole_reads (done s count head) now more
      (h.fields ++ (record { number = number; payload = Bytes body }) ∷ []) h.no_fault
      (pushed h.front h.begun now h.fields _ h.joined h.read h.spelled)
      (subst (λ (b : List ℕ). Faultless b) (sym h.joined) clear.faultless) entities known h.top h.at_end refl refl);
}

ended_badly : (s : Seen) (number at : ℕ) (body now : List ℕ) (given : List Entity) (fault : FeedFault)
    → (h : IsEnding s number at body now given)
    → ((more : List ℕ) → IsFeedFault (h.front ++ (h.begun ++ more)) fault)
    → (length h.front ≤ place_of fault) × (place_of fault < length h.front + length h.begun)
    → StandsFor (between s s.head (Some fault)) now given
ended_badly s number at body now given fault h stays place = record {
  taken = h.taken;
  counted = h.counted;
  stands = inr (record {
    fault = fault;
    found = refl;
    stays = λ more. subst (λ (b : List ℕ). IsFeedFault b fault) (sym (further h.front h.begun more now h.joined))
        (stays more);
    front = h.front;
    rest = h.begun;
    joined = h.joined;
    fields = h.fields;
    read = h.read;
    entities = h.entities;
    before = place.0;
    longest = λ more other later others e k le.
        fields_before h.fields others h.front other h.begun more later
        (record { number = number; payload = Bytes body }) h.read k h.spelled
        (sym (further h.front h.begun more now h.joined) ∙ e) (omega (arith, place.1, le));
    nothing_held = refl;
  });
}

body_after : (s : Seen) (number at : ℕ) (body now : List ℕ) (given : List Entity)
    → (h : IsEnding s number at body now given)
    → IsBodyAfter (length h.front) number h.begun (body_piece s at body)
body_after s number at body now given h =
    let fits : length body ≤ length h.begun =
    short_body (length h.begun) number (Bytes body) h.begun h.spelled (omega arith) in
    let sum = ap length h.joined in
    record {
      spelled = h.spelled;
      tag = h.place;
      start = omega (arith, fits, sum, h.taken, length-append h.front h.begun);
    }

pub entity_ends : (s new : Seen) (at : ℕ) (body now : List ℕ) (given : List Entity) (ended : Option Entity)
    → IsEnding s 2 at body now given → length body ≤ entity_limit → EndsEntity s at body ended new
    → Ends new now given ended
entity_ends s new at body now given (Some entity) h short e =
    let clear = entity_clear h.front h.begun body entity (clear_of h.front h.fields h.read h.faultless) h.spelled short
    e.0 in
    subst (λ (x : Seen). Ends x now given (Some entity)) (sym e.1) (
      ended_well s 2 at body now given (given ++ entity ∷ []) (s.given + 1) s.head h clear
          (messages_new OfFeedEntity 2 h.fields _ given body entity refl e.0 h.entities)
          (message_same OfHeadSoFar 1 h.fields _ s.head refl h.head)
          (omega (arith, h.counted, length-append given (entity ∷ []))),
      h.at_end,
    )
entity_ends s new at body now given None h short e =
    let after = body_after s 2 at body now given h in
    let clear = clear_of h.front h.fields h.read h.faultless in
    subst (λ (x : Seen). Ends x now given None) (sym e.2)
    (ended_badly s 2 at body now given e.0 h
    (λ more. entity_faulty h.front h.begun more (body_piece s at body) 0 e.0 clear after short e.1)
    (entity_place (length h.front) 0 h.begun (body_piece s at body) e.0 after e.1.0))

pub header_ends : (s new : Seen) (at : ℕ) (body now : List ℕ) (given : List Entity) → IsEnding s 1 at body now given
    → EndsHeader s at body new → StandsFor new now given
header_ends s new at body now given h (inl e) =
    let clear = header_clear h.front h.begun body e.1.fields (clear_of h.front h.fields h.read h.faultless) h.spelled
    e.1.read e.1.table.gtfs_realtime_version.0 in
    subst (λ (x : Seen). StandsFor x now given) (sym e.2)
    (ended_well s 1 at body now given given s.given (Some (head_after s.head e.0)) h clear
    (messages_same OfFeedEntity 2 h.fields _ given refl h.entities) (head_more h.fields body s.head e.0 h.head e.1)
    h.counted)
header_ends s new at body now given h (inr e) =
    let after = body_after s 1 at body now given h in
    let clear = clear_of h.front h.fields h.read h.faultless in
    subst (λ (x : Seen). StandsFor x now given) (sym e.2)
    (ended_badly s 1 at body now given e.0 h
    (λ more. header_faulty h.front h.begun more (body_piece s at body) e.0 clear after e.1)
    (header_place (length h.front) h.begun (body_piece s at body) e.0 after e.1.0))

-- ---- a field goes on or ends

ends_spelled : (now front begun : List ℕ) (field : WireField) (at : ℕ) → now ≡ front ++ begun → at ≡ length front
    → EndsWith field at now → IsSpelling 64 field begun
ends_spelled now front begun field at joined place e =
    let len : length e.front ≡ length front = sym e.place ∙ place in
    subst (λ (b : List ℕ). IsSpelling 64 field b)
    (same_parts e.front e.spelling front begun (sym e.joined ∙ joined) len).1 e.spelled

body_spelled : (now lead body : List ℕ) (number len at : ℕ) → now ≡ lead ++ body → length body ≡ len
    → EndsWithBytes number len at now → EndsWith (record { number = number; payload = Bytes body }) at now
body_spelled now lead body number len at joined counted e =
    subst (λ (b : List ℕ). EndsWith (record { number = number; payload = Bytes b }) at now)
    (same_ends e.0 e.1 lead body (sym e.2 ∙ joined) (e.3 ∙ sym counted)) e.4

-- the body that is read is that of a field of this number, place and length, of which so many bytes are left
abbrev IsKept : Body → ℕ → ℕ → ℕ → ℕ → List ℕ → List ℕ → List ℕ → Type 0
IsKept (bodies.Header at len) number place size left begun held new =
    (at ≡ place) × (len ≡ size) × (number ≡ 1) × ((lead : List ℕ) × (begun ≡ lead ++ (held ++ new)))
    × (length (held ++ new) + left ≡ size)
IsKept (bodies.Entity at len) number place size left begun held new =
    (at ≡ place) × (len ≡ size) × (number ≡ 2) × ((lead : List ℕ) × (begun ≡ lead ++ (held ++ new)))
    × (length (held ++ new) + left ≡ size) × (size ≤ entity_limit)
IsKept bodies.Other number place size left begun held new = (held ≡ []) × (number ≢ 1) × (number ≢ 2)

-- the field of this number, place and length, of which these bytes came, and so many are left
record IsGoing (s : Seen) (new now : List ℕ) (given : List Entity) (number at len left : ℕ) : Type 0 where
  pub front : List ℕ
  pub begun : List ℕ
  pub joined : now ≡ front ++ begun
  pub fields : List WireField
  pub read : AreFields front fields
  pub faultless : Faultless front
  pub entities : AreMessages OfFeedEntity 2 fields given
  pub head : IsMessage OfHeadSoFar 1 fields s.head
  pub taken : s.taken ≡ length now
  pub counted : s.given ≡ length given
  pub no_fault : s.fault ≡ None
  pub place : at ≡ length front
  pub top : tops.StandsFor s.top now
  pub goes_on : tops.place_of s.top ≡ place_left number len left
  pub stays : 0 < left → s.top.at ≡ at
  pub ended : left ≡ 0 → EndsWithBytes number len at now
  pub kept : IsKept s.body number at len left begun s.held new

going_ends : (s : Seen) (new now : List ℕ) (given : List Entity) (number at len left : ℕ) (lead body : List ℕ)
    → IsGoing s new now given number at len left → left ≡ 0 → now ≡ lead ++ body → length body ≡ len
    → IsEnding s number at body now given
going_ends s new now given number at len left lead body h none joined counted = record {
  front = h.front;
  begun = h.begun;
  joined = h.joined;
  fields = h.fields;
  read = h.read;
  faultless = h.faultless;
  entities = h.entities;
  head = h.head;
  taken = h.taken;
  counted = h.counted;
  no_fault = h.no_fault;
  place = h.place;
  spelled = ends_spelled now h.front h.begun (record { number = number; payload = Bytes body }) at h.joined h.place
      (body_spelled now lead body number len at joined counted (h.ended none));
  top = h.top;
  at_end = h.goes_on ∙ left_none number len left none;
}

-- bytes are left
going_on : (s r : Seen) (new now : List ℕ) (given : List Entity) (number at len left : ℕ)
    → IsGoing s new now given number at len left → 0 < left → r.taken ≡ s.taken → r.given ≡ s.given → r.top ≡ s.top
    → r.head ≡ s.head → r.fault ≡ s.fault
    → ((begun : List ℕ) → IsKept s.body number at len left begun s.held new
    → tops.place_of s.top ≡ InField number len left → s.top.at ≡ at → HoldsBody r.body s.top begun r.held)
    → StandsFor r now given
going_on s r new now given number at len left h some taken count top head fault body = record {
  taken = taken ∙ h.taken;
  counted = count ∙ h.counted;
  stands = inl (record {
    no_fault = fault ∙ h.no_fault;
    front = h.front;
    begun = h.begun;
    joined = h.joined;
    fields = h.fields;
    read = h.read;
    faultless = h.faultless;
    entities = h.entities;
    head = subst (λ (x : Option HeadSoFar). IsMessage OfHeadSoFar 1 h.fields x) (sym head) h.head;
    place = ap (λ (t : Top). t.at) top ∙ h.stays some ∙ h.place;
    top = subst (λ (t : Top). tops.StandsFor t now) (sym top) h.top;
    body = subst (λ (t : Top). HoldsBody r.body t h.begun r.held) (sym top)
        (body h.begun h.kept (h.goes_on ∙ left_more number len left some) (h.stays some));
  });
}

by_lt : (a b : ℕ) (P Q R : Type 0) (t : Bool) → nat_lt a b ≡ t → MatchBool t P Q → (a < b → P → R) → (b ≤ a → Q → R)
    → R
by_lt a b P Q R true e m less more = less (ltb-true a b e) m
by_lt a b P Q R false e m less more = more (ltb-false a b e) m

held_of_header : (s : Seen) (new begun : List ℕ) (a l number at len left : ℕ)
    → IsKept (bodies.Header a l) number at len left begun s.held new → tops.place_of s.top ≡ InField number len left
    → s.top.at ≡ at → HoldsBody (bodies.Header a l) s.top begun (s.held ++ new)
held_of_header s new begun a l number at len left k place stays = record {
  left = left;
  place = place ∙ ap (λ (n : ℕ). InField n len left) k.2 ∙ ap (λ (n : ℕ). InField 1 n left) (sym k.1);
  tag = k.0 ∙ sym stays;
  lead = k.3.0;
  joined = k.3.1;
  counted = k.4 ∙ sym k.1;
}

held_of_entity : (s : Seen) (new begun : List ℕ) (a l number at len left : ℕ)
    → IsKept (bodies.Entity a l) number at len left begun s.held new → tops.place_of s.top ≡ InField number len left
    → s.top.at ≡ at → HoldsBody (bodies.Entity a l) s.top begun (s.held ++ new)
held_of_entity s new begun a l number at len left k place stays = (
  record {
    left = left;
    place = place ∙ ap (λ (n : ℕ). InField n len left) k.2 ∙ ap (λ (n : ℕ). InField 2 n left) (sym k.1);
    tag = k.0 ∙ sym stays;
    lead = k.3.0;
    joined = k.3.1;
    counted = k.4 ∙ sym k.1;
  },
  omega (arith, k.1, k.5),
)

held_of_other : (s : Seen) (new begun : List ℕ) (number at len left : ℕ)
    → IsKept bodies.Other number at len left begun s.held new → tops.place_of s.top ≡ InField number len left
    → s.top.at ≡ at → HoldsBody bodies.Other s.top begun s.held
held_of_other s new begun number at len left k place stays = (
  k.0,
  λ other size rest e.
      let same = in_field_once number other len size left rest (sym place ∙ e) in
      ((λ one. k.1 (same.0 ∙ one)), (λ two. k.2 (same.0 ∙ two))),
)

-- the bytes after the lead are the body
whole_lead : (front begun lead body now : List ℕ) → now ≡ front ++ begun → begun ≡ lead ++ body
    → now ≡ (front ++ lead) ++ body
whole_lead front begun lead body now joined e =
    joined ∙ ap (λ (l : List ℕ). front ++ l) e ∙ sym (append_assoc front lead body)

-- a field that is none of a header or an entity ends
skipped : (s : Seen) (new now : List ℕ) (given : List Entity) (number at len left : ℕ)
    → IsGoing s new now given number at len left → s.body ≡ bodies.Other
    → (s.held ≡ []) × (number ≢ 1) × (number ≢ 2) → left ≡ 0 → StandsFor s now given
unfolding going_ends
skipped s new now given number at len left h other k none =
    let whole = h.ended none in
    let body = whole.1 in
    let field : WireField = record { number = number; payload = Bytes body } in
    let e = going_ends s new now given number at len left whole.0 body h none whole.2 whole.3 in
    let clear = other_clear h.front h.begun field (clear_of h.front h.fields h.read h.faultless) e.spelled
    (λ b same. (k.1, k.2)) in
    record {
      taken = h.taken;
      counted = h.counted;
      stands = inl (whole_reads s now given (h.fields ++ field ∷ []) h.no_fault
          (pushed h.front h.begun now h.fields field h.joined h.read e.spelled)
          (subst (λ (b : List ℕ). Faultless b) (sym h.joined) clear.faultless)
          (messages_same OfFeedEntity 2 h.fields field given (holds_not 2 field k.2) h.entities)
          (message_same OfHeadSoFar 1 h.fields field s.head (holds_not 1 field k.1) h.head) h.top e.at_end
          other k.0);
    }

none_ends : (new s : Seen) (now : List ℕ) (given : List Entity) (ended : Option Entity) → ended ≡ None → new ≡ s
    → StandsFor s now given → Ends new now given ended
none_ends new s now given ended e f h =
    subst (λ (x : Option Entity). Ends new now given x) (sym e)
    (subst (λ (r : Seen). StandsFor r now given) (sym f) h)

proceeds_by : (body : Body) (s new : Seen) (more now : List ℕ) (given : List Entity) (ended : Option Entity)
    (number at len left : ℕ) → s.body ≡ body → IsGoing s more now given number at len left
    → ProceedsBy body s more ended new → Ends new now given ended
proceeds_by bodies.Other s new more now given ended number at len left e h p =
    let kept = λ (begun : List ℕ). λ (k : IsKept s.body number at len left begun s.held more).
    subst (λ (b : Body). IsKept b number at len left begun s.held more) e k in
    none_ends new s now given ended p.0 p.1
    (elim (cases_lt 0 left) [
      | inl some ↦ going_on s s more now given number at len left h some refl refl refl refl refl
          (λ begun k place stays.
          subst (λ (b : Body). HoldsBody b s.top begun s.held) (sym e)
          (held_of_other s more begun number at len left (kept begun k) place stays))
      | inr none ↦
          let zero : left ≡ 0 = omega (arith, none) in
          skipped s more now given number at len left h e (kept h.begun h.kept) zero
    ])
proceeds_by (bodies.Header a l) s new more now given ended number at len left e h p =
    let kept = λ (begun : List ℕ). λ (k : IsKept s.body number at len left begun s.held more).
    subst (λ (b : Body). IsKept b number at len left begun s.held more) e k in
    let k = kept h.begun h.kept in
    let sum = length-append s.held more in
    by_lt (length s.held + length more) l (new ≡ holding s more) (EndsHeader s a (s.held ++ more) new)
    (Ends new now given ended) (nat_lt (length s.held + length more) l) refl p.1
    (λ lt f.
    let some : 0 < left = omega (arith, lt, k.4, k.1, sum) in
    none_ends new (holding s more) now given ended p.0 f
    (going_on s (holding s more) more now given number at len left h some refl refl refl refl refl
    (λ begun x place stays.
    subst (λ (b : Body). HoldsBody b s.top begun (s.held ++ more)) (sym e)
    (held_of_header s more begun a l number at len left (kept begun x) place stays))))
    (λ ge x.
    let zero : left ≡ 0 = omega (arith, ge, k.4, k.1, sum) in
    let counted : length (s.held ++ more) ≡ len = omega (arith, k.4, zero) in
    let ending = going_ends s more now given number at len left (h.front ++ k.3.0) (s.held ++ more) h zero
    (whole_lead h.front h.begun k.3.0 (s.held ++ more) now h.joined k.3.1) counted in
    none_ends new new now given ended p.0 refl
    (header_ends s new at (s.held ++ more) now given
    (subst (λ (n : ℕ). IsEnding s n at (s.held ++ more) now given) k.2 ending)
    (subst (λ (n : ℕ). EndsHeader s n (s.held ++ more) new) k.0 x)))
proceeds_by (bodies.Entity a l) s new more now given ended number at len left e h p =
    let kept = λ (begun : List ℕ). λ (k : IsKept s.body number at len left begun s.held more).
    subst (λ (b : Body). IsKept b number at len left begun s.held more) e k in
    let k = kept h.begun h.kept in
    let sum = length-append s.held more in
    by_lt (length s.held + length more) l ((ended ≡ None) × (new ≡ holding s more))
    (EndsEntity s a (s.held ++ more) ended new) (Ends new now given ended) (nat_lt (length s.held + length more) l) refl
    p
    (λ lt f.
    let some : 0 < left = omega (arith, lt, k.4, k.1, sum) in
    none_ends new (holding s more) now given ended f.0 f.1
    (going_on s (holding s more) more now given number at len left h some refl refl refl refl refl
    (λ begun x place stays.
    subst (λ (b : Body). HoldsBody b s.top begun (s.held ++ more)) (sym e)
    (held_of_entity s more begun a l number at len left (kept begun x) place stays))))
    (λ ge x.
    let zero : left ≡ 0 = omega (arith, ge, k.4, k.1, sum) in
    let counted : length (s.held ++ more) ≡ len = omega (arith, k.4, zero) in
    let ending = going_ends s more now given number at len left (h.front ++ k.3.0) (s.held ++ more) h zero
    (whole_lead h.front h.begun k.3.0 (s.held ++ more) now h.joined k.3.1) counted in
    entity_ends s new at (s.held ++ more) now given ended
    (subst (λ (n : ℕ). IsEnding s n at (s.held ++ more) now given) k.2 ending) (omega (arith, counted, k.5))
    (subst (λ (n : ℕ). EndsEntity s n (s.held ++ more) ended new) k.0 x))

-- ---- the events

-- no fault was found
reading_by : (reader : Seen) (bytes : List ℕ) (given : List Entity) → false ≡ is_some reader.fault
    → ReadsOn reader bytes given ⊎ StopsAtFault reader bytes given → ReadsOn reader bytes given
reading_by reader bytes given none (inl reads) = reads
reading_by reader bytes given none (inr stops) = let d = none ∙ ap is_some stops.found in absurd cc

pub top_of : (reader : Seen) (bytes : List ℕ) (given : List Entity) → StandsFor reader bytes given
    → false ≡ is_some reader.fault → tops.StandsFor reader.top bytes
top_of reader bytes given h none = (reading_by reader bytes given none h.stands).top

kept_by : (number at len : ℕ) (begun : List ℕ) (one two : Bool) → (number == 1) ≡ one → (number == 2) ≡ two
    → (number ≡ 2 → len ≤ entity_limit)
    → IsKept (if one then bodies.Header at len else if two then bodies.Entity at len else bodies.Other) number at len len
    begun [] []
kept_by number at len begun true two e f short =
    (refl, refl, eqb-true number 1 e, (begun, sym (append-nil begun)), omega arith)
kept_by number at len begun false true e f short =
    let is = eqb-true number 2 f in (refl, refl, is, (begun, sym (append-nil begun)), omega arith, short is)
kept_by number at len begun false false e f short = (
  refl,
  (λ is. let d = sym e ∙ eq-eqb number 1 is in absurd cc),
  (λ is. let d = sym f ∙ eq-eqb number 2 is in absurd cc),
)

kept_new : (number at len : ℕ) (begun held : List ℕ) → held ≡ [] → (number ≡ 2 → len ≤ entity_limit)
    → IsKept (body_of number at len) number at len len begun held []
kept_new number at len begun held empty short =
    subst (λ (h : List ℕ). IsKept (body_of number at len) number at len len begun h []) (sym empty)
    (kept_by number at len begun (number == 1) (number == 2) refl refl short)

-- an entity begins that is too long
too_long : (old : Seen) (bytes taken : List ℕ) (given : List Entity) (used number at len : ℕ) (top : Top)
    → StandsFor old bytes given → (r : ReadsOn old bytes given) → used ≡ length taken → at ≡ old.top.at
    → HasBegun number at len top (bytes ++ taken) → number ≡ 2 → entity_limit < len
    → StandsFor (between (stepped old used top) old.head (Some (EntityTooLong at))) (bytes ++ taken) given
too_long old bytes taken given used number at len top h r count here b two long =
    let e = b.begun in
    let place : at ≡ length r.front = here ∙ r.place in
    let joined = further r.front r.begun taken bytes r.joined in
    let same = same_parts e.front (e.tag ++ e.size) r.front (r.begun ++ taken) (sym e.joined ∙ joined)
    (sym e.place ∙ place) in
    let tagged = subst (λ (n : ℕ). IsVarint e.tag (n * 8 + 2)) two e.tagged in
    record {
      taken = omega (arith, h.taken, count, length-append bytes taken);
      counted = h.counted;
      stands = inr (record {
        fault = EntityTooLong at;
        found = refl;
        stays = λ more.
            let clear = clear_of r.front r.fields r.read r.faultless in
            let told = entity_long r.front e.tag e.size more len clear tagged e.sized long in
            let path = further r.front (r.begun ++ taken) more (bytes ++ taken) joined
            ∙ ap (λ (l : List ℕ). r.front ++ (l ++ more)) (sym same.1)
            ∙ ap (λ (l : List ℕ). r.front ++ l) (append_assoc e.tag e.size more) in
            subst (λ (n : ℕ). IsFeedFault ((bytes ++ taken) ++ more) (EntityTooLong n)) (sym place)
            (subst (λ (l : List ℕ). IsFeedFault l (EntityTooLong (length r.front))) (sym path) told);
        front = r.front;
        rest = r.begun ++ taken;
        joined = joined;
        fields = r.fields;
        read = r.read;
        entities = r.entities;
        before = omega (arith, place);
        longest = λ more other later others f k le. omega (arith, place, le);
        nothing_held = refl;
      });
    }

both : (a b : Bool) → (a && b) ≡ true → (a ≡ true) × (b ≡ true)
both true b e = (refl, e)
both false b e = absurd cc

by_and : (number len : ℕ) (P Q R : Type 0) (t : Bool) → (number == 2 && nat_lt entity_limit len) ≡ t → MatchBool t P Q
    → (number ≡ 2 → entity_limit < len → P → R) → ((number ≡ 2 → len ≤ entity_limit) → Q → R) → R
by_and number len P Q R true e m long short =
    let b = both (number == 2) (nat_lt entity_limit len) e in
    long (eqb-true number 2 b.0) (ltb-true entity_limit len b.1) m
by_and number len P Q R false e m long short =
    short
    (λ two. ltb-false entity_limit len
    (sym (ap (λ (b : Bool). b && nat_lt entity_limit len) (eq-eqb number 2 two)) ∙ e)) m

pub begin_steps : (old new : Seen) (bytes taken : List ℕ) (given : List Entity) (used number at len : ℕ) (top : Top)
    (ended : Option Entity) → StandsFor old bytes given → false ≡ is_some old.fault → used ≡ length taken
    → IsInNoField old.top × (at ≡ old.top.at) × HasBegun number at len top (bytes ++ taken)
    → Begins (stepped old used top) number at len ended new → Ends new (bytes ++ taken) given ended
begin_steps old new bytes taken given used number at len top ended h none count b begins =
    let r = reading_by old bytes given none h.stands in
    let now = bytes ++ taken in
    let s = with_body (stepped old used top) (body_of number at len) in
    let kept = nothing_kept old.body old.top r.begun old.held r.body b.0 in
    by_and number len
    ((ended ≡ None) × (new ≡ between (stepped old used top) old.head (Some (EntityTooLong at))))
    (Proceeds s [] ended new) (Ends new now given ended) (number == 2 && nat_lt entity_limit len) refl begins
    (λ two long f.
    none_ends new (between (stepped old used top) old.head (Some (EntityTooLong at))) now given ended f.0 f.1
    (too_long old bytes taken given used number at len top h r count b.1 b.2 two long))
    (λ short p.
    proceeds_by (body_of number at len) s new [] now given ended number at len len refl (record {
      front = r.front;
      begun = r.begun ++ taken;
      joined = further r.front r.begun taken bytes r.joined;
      fields = r.fields;
      read = r.read;
      faultless = r.faultless;
      entities = r.entities;
      head = r.head;
      taken = omega (arith, h.taken, count, length-append bytes taken);
      counted = h.counted;
      no_fault = r.no_fault;
      place = b.1 ∙ r.place;
      top = b.2.stands;
      goes_on = b.2.goes_on;
      stays = b.2.stays;
      ended = b.2.ended;
      kept = kept_new number at len (r.begun ++ taken) old.held kept.1 short;
    }) p)

-- so many bytes of what is held, and those that come
kept_more : (body : Body) (top : Top) (begun held taken : List ℕ) (number len left used : ℕ)
    → HoldsBody body top begun held → tops.place_of top ≡ InField number len left → used ≡ length taken → used ≤ left
    → IsKept body number top.at len (left - used) (begun ++ taken) held taken
kept_more bodies.Other top begun held taken number len left used h place count within =
    (h.0, (h.1 number len left place).0, (h.1 number len left place).1)
kept_more (bodies.Header at size) top begun held taken number len left used h place count within =
    let same = in_field_once number 1 len size left h.left (sym place ∙ h.place) in (
      h.tag,
      sym same.1,
      same.0,
      (h.lead, ap (λ (l : List ℕ). l ++ taken) h.joined ∙ append_assoc h.lead held taken),
      omega (arith, h.counted, count, within, same.1, same.2, length-append held taken),
    )
kept_more (bodies.Entity at size) top begun held taken number len left used h place count within =
    let k = h.0 in
    let same = in_field_once number 2 len size left k.left (sym place ∙ k.place) in (
      k.tag,
      sym same.1,
      same.0,
      (k.lead, ap (λ (l : List ℕ). l ++ taken) k.joined ∙ append_assoc k.lead held taken),
      omega (arith, k.counted, count, within, same.1, same.2, length-append held taken),
      omega (arith, h.1, same.1),
    )

pub part_steps : (old new : Seen) (bytes taken : List ℕ) (given : List Entity) (used : ℕ) (top : Top)
    (ended : Option Entity) → StandsFor old bytes given → false ≡ is_some old.fault → used ≡ length taken
    → HasPart used old.top top (bytes ++ taken) → Proceeds (stepped old used top) taken ended new
    → Ends new (bytes ++ taken) given ended
part_steps old new bytes taken given used top ended h none count b p =
    let r = reading_by old bytes given none h.stands in
    proceeds_by old.body (stepped old used top) new taken (bytes ++ taken) given ended b.number old.top.at b.len
    (b.left - used) refl (record {
      front = r.front;
      begun = r.begun ++ taken;
      joined = further r.front r.begun taken bytes r.joined;
      fields = r.fields;
      read = r.read;
      faultless = r.faultless;
      entities = r.entities;
      head = r.head;
      taken = omega (arith, h.taken, count, length-append bytes taken);
      counted = h.counted;
      no_fault = r.no_fault;
      place = r.place;
      top = b.stands;
      goes_on = b.goes_on;
      stays = λ some. b.stays (omega (arith, some));
      ended = λ e. b.ended (omega (arith, e, b.within));
      kept = kept_more old.body old.top r.begun old.held taken b.number b.len b.left used r.body b.was count b.within;
    }) p

pub more_steps : (old : Seen) (bytes taken : List ℕ) (given : List Entity) (used : ℕ) (top : Top)
    → StandsFor old bytes given → false ≡ is_some old.fault → used ≡ length taken
    → HasMore old.top top (bytes ++ taken) → StandsFor (stepped old used top) (bytes ++ taken) given
more_steps old bytes taken given used top h none count b =
    let r = reading_by old bytes given none h.stands in
    let kept = nothing_kept old.body old.top r.begun old.held r.body b.was in
    record {
      taken = omega (arith, h.taken, count, length-append bytes taken);
      counted = h.counted;
      stands = inl (record {
        no_fault = r.no_fault;
        front = r.front;
        begun = r.begun ++ taken;
        joined = further r.front r.begun taken bytes r.joined;
        fields = r.fields;
        read = r.read;
        faultless = r.faultless;
        entities = r.entities;
        head = r.head;
        place = b.stays ∙ r.place;
        top = b.stands;
        body = holds_nothing old.body top (r.begun ++ taken) old.held kept.0 kept.1 (elsewhere_none top b.elsewhere);
      });
    }

pub other_steps : (old : Seen) (bytes taken : List ℕ) (given : List Entity) (used : ℕ) (top : Top)
    → StandsFor old bytes given → false ≡ is_some old.fault → used ≡ length taken
    → IsInNoField old.top × HasOther old.top.at top (bytes ++ taken)
    → StandsFor (stepped old used top) (bytes ++ taken) given
other_steps old bytes taken given used top h none count b =
    let r = reading_by old bytes given none h.stands in
    let now = bytes ++ taken in
    let o = b.1 in
    let kept = nothing_kept old.body old.top r.begun old.held r.body b.0 in
    let joined = further r.front r.begun taken bytes r.joined in
    let spelled = ends_spelled now r.front (r.begun ++ taken) o.field old.top.at joined r.place o.ended in
    let clear = other_clear r.front (r.begun ++ taken) o.field (clear_of r.front r.fields r.read r.faultless) spelled
    (λ body same. absurd (o.plain body same)) in
    record {
      taken = omega (arith, h.taken, count, length-append bytes taken);
      counted = h.counted;
      stands = inl (whole_reads (stepped old used top) now given (r.fields ++ o.field ∷ []) r.no_fault
          (pushed r.front (r.begun ++ taken) now r.fields o.field joined r.read spelled)
          (subst (λ (l : List ℕ). Faultless l) (sym joined) clear.faultless)
          (messages_same OfFeedEntity 2 r.fields o.field given (holds_none 2 o.field o.plain) r.entities)
          (message_same OfHeadSoFar 1 r.fields o.field old.head (holds_none 1 o.field o.plain) r.head) o.stands o.between
          kept.0 kept.1);
    }

pub broken_steps : (old : Seen) (bytes taken : List ℕ) (given : List Entity) (used : ℕ) (top : Top)
    (fault : WireFault) → StandsFor old bytes given → false ≡ is_some old.fault → used ≡ length taken
    → (fault.at ≡ old.top.at) × IsBroken (bytes ++ taken) fault.at fault.kind × (fault.kind ≢ Truncated)
    → StandsFor (between (stepped old used top) old.head (Some (Wire fault))) (bytes ++ taken) given
broken_steps old bytes taken given used top fault h none count b =
    let r = reading_by old bytes given none h.stands in
    let now = bytes ++ taken in
    let place : fault.at ≡ length r.front = b.0 ∙ r.place in
    let joined = further r.front r.begun taken bytes r.joined in
    let clear = clear_of r.front r.fields r.read r.faultless in
    let broken = subst (λ (n : ℕ). IsBroken now n fault.kind) place b.1 in
    record {
      taken = omega (arith, h.taken, count, length-append bytes taken);
      counted = h.counted;
      stands = inr (record {
        fault = Wire fault;
        found = refl;
        stays = λ more.
            subst (λ (n : ℕ). IsFeedFault (now ++ more) (Wire (record { at = n; kind = fault.kind }))) (sym place)
            (faults.broken_stays now r.front (r.begun ++ taken) more fault.kind clear joined broken b.2
            (broken_stays now more (length r.front) fault.kind broken b.2));
        front = r.front;
        rest = r.begun ++ taken;
        joined = joined;
        fields = r.fields;
        read = r.read;
        entities = r.entities;
        before = omega (arith, place);
        longest = λ more other later others f k le. omega (arith, place, le);
        nothing_held = refl;
      });
    }

-- after a fault all is taken
passed_by : (old : Seen) (bytes taken : List ℕ) (given : List Entity) (count : ℕ) → true ≡ is_some old.fault
    → ReadsOn old bytes given ⊎ StopsAtFault old bytes given
    → StopsAtFault (stepped old count old.top) (bytes ++ taken) given
passed_by old bytes taken given count some (inl r) = let d = some ∙ ap is_some r.no_fault in absurd cc
passed_by old bytes taken given count some (inr s) = record {
  fault = s.fault;
  found = s.found;
  stays = λ more. subst (λ (l : List ℕ). IsFeedFault l s.fault) (sym (append_assoc bytes taken more))
      (s.stays (taken ++ more));
  front = s.front;
  rest = s.rest ++ taken;
  joined = further s.front s.rest taken bytes s.joined;
  fields = s.fields;
  read = s.read;
  entities = s.entities;
  before = s.before;
  longest = λ more other later others e k le.
      s.longest (taken ++ more) other later others (sym (append_assoc bytes taken more) ∙ e) k le;
  nothing_held = s.nothing_held;
}

pub passed_steps : (old : Seen) (bytes taken : List ℕ) (given : List Entity) (count : ℕ) → StandsFor old bytes given
    → true ≡ is_some old.fault → count ≡ length taken
    → StandsFor (stepped old count old.top) (bytes ++ taken) given
passed_steps old bytes taken given count h some len = record {
  taken = omega (arith, h.taken, len, length-append bytes taken);
  counted = h.counted;
  stands = inr (passed_by old bytes taken given count some h.stands);
}

-- ---- the body that ends

-- what is the whole body where nothing is held
pub alone : (held bytes : List ℕ) → true ≡ (length held == 0) → bytes ≡ held ++ bytes
alone held bytes e = ap (λ (h : List ℕ). h ++ bytes) (sym (nil_from_length held (eqb-true (length held) 0 (sym e))))

-- ---- nothing came yet

pub nothing_yet : (top : Top) (held : List ℕ) → tops.StandsFor top [] → tops.place_of top ≡ Between → held ≡ []
    → StandsFor (record {
      taken = 0;
      given = 0;
      top = top;
      body = bodies.Other;
      held = held;
      head = None;
      fault = None;
    }) [] []
nothing_yet top held stands at_end empty = record {
  taken = refl;
  counted = refl;
  stands = inl (whole_reads _ [] [] [] refl refl faultless_nothing tt (tt, tt) stands at_end refl empty);
}
