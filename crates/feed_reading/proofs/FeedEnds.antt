-- What a reader of a feed in pieces answers at the end of the bytes that it stands for.
use Rattle.std.proofs.Common.{◌≡◌, ◌≢◌, ℕ, pos, suc, ◌+◌, ◌*◌, ◌%◌, ◌^◌, ◌<◌, ◌≤◌, List, [], ◌∷◌, ◌++◌, length, length-append, append_assoc, refl, sym, ap, subst, ◌∙◌, inl, inr, arith}
use Rattle.std.proofs.lemmas.List.{append-nil, nil_from_length}
use Rattle.std.specs.Prelude.{Option, Some, None, option_map, unwrap_or, Result, Ok, Err, IfOk, IfErr}
use Rattle.std.specs.Int.{w32, cast_signed}
use Rattle.std.specs.List.{AllByRecursion, concat, last_or}
use Rattle.gw_base.specs.declared.messages.Entity.{Entity}
use Rattle.gw_base.specs.declared.messages.FeedHead.{FeedHead}
use Rattle.gw_base.specs.declared.required.Required.TheVariants.{Header, GtfsRealtimeVersion}
use Rattle.wire_fields.specs.declared.field.WireFault.{WireFault}
use Rattle.wire_fields.specs.declared.top.part.Part.{Part}
use Rattle.wire_fields.specs.declared.top.part.Part.TheVariants as parts
use Rattle.wire_fields.specs.Grammar.{WireField, IsChain, IsVarint, AreFields, BeginsNumber}
use Rattle.wire_fields.specs.Breaks.{IsBroken}
use Rattle.wire_fields.specs.OpenGroups.{IsOpen}
use Rattle.wire_fields.specs.TopReading as tops
use Rattle.wire_fields.specs.TopReading.{Top, Between, InField}
use Rattle.feed_reading.specs.declared.fault.FeedFault.{FeedFault}
use Rattle.feed_reading.specs.declared.fault.FeedFault.TheVariants.{Wire, MissingField}
use Rattle.feed_reading.specs.declared.feed_reader.state.Body.{Body}
use Rattle.feed_reading.specs.declared.feed_reader.state.Body.TheVariants as bodies
use Rattle.feed_reading.specs.declared.feed_reader.state.HeadSoFar.{HeadSoFar}
use Rattle.feed_reading.specs.Faults.{HasFault, IsFeedFault}
use Rattle.feed_reading.specs.FieldFaults.{Faultless}
use Rattle.feed_reading.specs.FeedPieces.{Seen, OfHeadSoFar, HoldsBody, ReadsOn, StandsFor, feed_of}
use Rattle.feed_reading.specs.FeedSteps.{head_with, whole_head}
use Rattle.feed_reading.specs.Found.{IsLongHere}
use Rattle.feed_reading.specs.Limits.{entity_limit}
use Rattle.feed_reading.specs.Meaning.{bodies as bodies_of, Means, IsJoined, IsMessage, AreMessages}
use Rattle.feed_reading.specs.Tables.{OfFeedEntity, OfFeedHeader, header_of, MeansFeed}
use Rattle.feed_reading.proofs.FieldFaults.{Clear, broken_at_end, missing_header, missing_version, nothing_missing}
use Rattle.feed_reading.proofs.FeedReading.{same_parts, between_at, in_field_once}
use Rattle.feed_reading.proofs.LongEntities.{number_once, tag_of_long}
use Rattle.feed_reading.proofs.WholeMessages.{last_there, text_there}

-- ---- the fault that was found

pub stopped_here : (s : Seen) (bytes : List ℕ) (given : List Entity) (fault : FeedFault) → s.fault ≡ Some fault
    → StandsFor s bytes given → IsFeedFault bytes fault
stopped_here s bytes given fault found h =
    elim h.stands [
      | inl r ↦ (let d = sym r.no_fault ∙ found in absurd cc)
      | inr stop ↦
          let same : stop.fault ≡ fault = (let e = sym stop.found ∙ found in cc) in
          subst (λ (f : FeedFault). IsFeedFault bytes f) same
          (subst (λ (l : List ℕ). IsFeedFault l stop.fault) (append-nil bytes) (stop.stays []))
    ]

-- ---- an entity that is too long has begun nowhere

chain_low : (bytes rest : List ℕ) → IsChain bytes → AllByRecursion (λ byte. 128 ≤ byte) (bytes ++ rest) → ⊥
chain_low [] rest chain high = chain
chain_low (byte ∷ []) rest chain high = omega (arith, chain, high.0)
chain_low (byte ∷ next ∷ bytes) rest chain high = chain_low (next ∷ bytes) rest chain.1 high.1

varint_some : (bytes : List ℕ) (value : ℕ) → IsVarint bytes value → 1 ≤ length bytes
varint_some [] value h = absurd h.chain
varint_some (byte ∷ bytes) value h = omega arith

other_tag : (begun : List ℕ) (l : IsLongHere begun) (value : ℕ) (rest : List ℕ) → BeginsNumber begun value rest
    → (18 ≡ value) × (l.size ++ l.rest ≡ rest)
other_tag begun l value rest b = number_once begun 18 value (l.size ++ l.rest) rest (tag_of_long begun l) b

part_long : (part : Part) (begun : List ℕ) → tops.IsPart part begun → (l : IsLongHere begun)
    → (left : ℕ) × (tops.place_in [] part ≡ InField 2 l.len left)
part_long parts.Nothing begun h l =
    let some = varint_some l.tag 18 l.tagged in
    absurd (omega (arith, ap length h, ap length l.joined, length-append l.tag (l.size ++ l.rest), some))
part_long (parts.Tag chain) begun h l =
    absurd (chain_low l.tag (l.size ++ l.rest) l.tagged.chain
    (subst (λ (b : List ℕ). AllByRecursion (λ byte. 128 ≤ byte) b) l.joined h.1.high))
part_long (parts.Value chain) begun h l =
    absurd (omega (arith, (other_tag begun l (h.0 * 8 + 0) h.1.1 (h.1.0, h.1.2, h.1.3.0)).0))
part_long (parts.Size number chain) begun h l =
    let same = (other_tag begun l (number * 8 + 2) h.1 (h.0, h.2, h.3.0)).1 in
    absurd (chain_low l.size l.rest l.sized.chain
    (subst (λ (b : List ℕ). AllByRecursion (λ byte. 128 ≤ byte) b) (sym same) h.4.high))
part_long (parts.Payload number len left) begun h l =
    let tag = other_tag begun l (number * 8 + 2) h.1 (h.0, h.2, h.3.0) in
    let two : number ≡ 2 = omega (arith, tag.0) in
    let size = number_once h.1 l.len len l.rest h.4.1 (l.size, sym tag.1, l.sized) (h.4.0, h.4.2, h.4.3) in
    (left, ap (λ (n : ℕ). InField n len left) two ∙ ap (λ (n : ℕ). InField 2 n left) (sym size.0))
part_long (parts.Eight left) begun h l =
    absurd (omega (arith, (other_tag begun l (h.0 * 8 + 1) h.1.1 (h.1.0, h.1.2, h.1.3.0)).0))
part_long (parts.Four left) begun h l =
    absurd (omega (arith, (other_tag begun l (h.0 * 8 + 5) h.1.1 (h.1.0, h.1.2, h.1.3.0)).0))

-- the first of the open groups begins the run
group_begins : (number : ℕ) (groups : List ℕ) (room : ℕ) (run : List ℕ) → IsOpen (number ∷ groups) room run
    → (outer : ℕ) × (rest : List ℕ) × BeginsNumber run (outer * 8 + 3) rest
unfolding IsOpen
group_begins number [] room run h =
    let item = h.starts in (
      number,
      item.payload ++ h.inside,
      (
        item.tag,
        h.joined ∙ ap (λ (l : List ℕ). l ++ (h.start ++ h.inside)) h.outer.0
            ∙ ap (λ (l : List ℕ). l ++ h.inside) item.joined ∙ append_assoc item.tag item.payload h.inside,
        item.tagged,
      ),
    )
group_begins number (next ∷ groups) room run h =
    let b = group_begins next groups (suc room) h.front h.outer in (
      b.0,
      b.1 ++ (h.start ++ h.inside),
      (
        b.2.0,
        h.joined ∙ ap (λ (l : List ℕ). l ++ (h.start ++ h.inside)) b.2.1
            ∙ append_assoc b.2.0 b.1 (h.start ++ h.inside),
        b.2.2,
      ),
    )

place_by : (groups : List ℕ) (part : Part) (run tail begun : List ℕ) → (room : ℕ) → IsOpen groups room run
    → tops.IsPart part tail → run ++ tail ≡ begun → (l : IsLongHere begun)
    → (left : ℕ) × (tops.place_in groups part ≡ InField 2 l.len left)
unfolding IsOpen
place_by [] part run tail begun room opens h joined l =
    let same : tail ≡ begun = ap (λ (r : List ℕ). r ++ tail) (sym opens.0) ∙ joined in
    part_long part begun (subst (λ (b : List ℕ). tops.IsPart part b) same h) l
place_by (number ∷ groups) part run tail begun room opens h joined l =
    let b = group_begins number groups room run opens in
    let after = other_tag begun l (b.0 * 8 + 3) (b.1 ++ tail)
    (b.2.0, sym joined ∙ ap (λ (r : List ℕ). r ++ tail) b.2.1 ∙ append_assoc b.2.0 b.1 tail, b.2.2) in
    absurd (omega (arith, after.0))

no_long_body : (body : Body) (top : Top) (begun held : List ℕ) (len left : ℕ) → HoldsBody body top begun held
    → tops.place_of top ≡ InField 2 len left → entity_limit < len → ⊥
no_long_body bodies.Other top begun held len left h place long = (h.1 2 len left place).1 refl
no_long_body (bodies.Header at size) top begun held len left h place long =
    let same = in_field_once 2 1 len size left h.left (sym place ∙ h.place) in omega (arith, same.0)
no_long_body (bodies.Entity at size) top begun held len left h place long =
    let same = in_field_once 2 2 len size left h.0.left (sym place ∙ h.0.place) in omega (arith, same.1, h.1, long)

not_long : (s : Seen) (bytes : List ℕ) (given : List Entity) → (r : ReadsOn s bytes given) → ¬ IsLongHere r.begun
not_long s bytes given r l =
    let t = r.top.1 in
    let same = same_parts t.front (t.run ++ t.tail) r.front r.begun (sym t.joined ∙ r.joined) (sym t.place ∙ r.place) in
    let place = place_by s.top.groups s.top.part t.run t.tail r.begun t.walked.room t.walked.is_open t.ends same.1 l in
    no_long_body s.body s.top r.begun s.held l.len place.0 r.body place.1 l.long

-- ---- the bytes are cut short

pub cut_here : (s : Seen) (bytes : List ℕ) (given : List Entity) (fault : WireFault) → s.fault ≡ None
    → ((bytes : List ℕ) → tops.StandsFor s.top bytes → IsBroken bytes fault.at fault.kind) → fault.at ≡ s.top.at
    → StandsFor s bytes given → IsFeedFault bytes (Wire fault)
cut_here s bytes given fault none broken at h =
    elim h.stands [
      | inl r ↦
          let place : fault.at ≡ length r.front = at ∙ r.place in
          let clear : Clear r.front = record { fields = r.fields; read = r.read; faultless = r.faultless } in
          let breaks = subst (λ (n : ℕ). IsBroken bytes n fault.kind) place (broken bytes r.top) in
          subst (λ (n : ℕ). IsFeedFault bytes (Wire (record { at = n; kind = fault.kind }))) (sym place)
          (broken_at_end bytes r.front r.begun fault.kind clear r.joined breaks (not_long s bytes given r))
      | inr stop ↦ (let d = sym none ∙ stop.found in absurd cc)
    ]

-- ---- the bytes are fields

none_joined : (all : List (List ℕ)) → IsJoined OfHeadSoFar all None → all ≡ []
none_joined [] h = refl
none_joined (body ∷ others) h = absurd h

some_joined : (all : List (List ℕ)) (head : HeadSoFar) → IsJoined OfHeadSoFar all (Some head)
    → (all ≢ []) × Means OfHeadSoFar (concat all) head
some_joined [] head h = absurd h
some_joined (body ∷ others) head h = ((λ e. absurd cc), h)

nothing_last : (texts : List (List ℕ)) → None ≡ last_or None texts → texts ≡ []
nothing_last [] e = refl
nothing_last (text ∷ texts) e =
    let some : text ∷ texts ≢ [] = λ d. absurd cc in
    let last = last_there (text ∷ texts) some in
    let d = e ∙ sym last.1 in absurd cc

-- the header where its version is there
abbrev head_of : HeadSoFar → List ℕ → FeedHead
head_of head version =
    record {
      version = version;
      incrementality = unwrap_or (option_map (λ n. cast_signed w32 (n % 2 ^ 32)) head.incrementality) (pos 0);
      timestamp = head.timestamp;
    }

whole_joined : (all : List (List ℕ)) (head : HeadSoFar) (version : List ℕ) (given : List Entity)
    → Some version ≡ head.version → IsJoined OfHeadSoFar all (Some head)
    → IsJoined OfFeedHeader all (Some (header_of (feed_of (head_of head version) given)))
whole_joined [] head version given e h = absurd h
whole_joined (body ∷ others) head version given e h = record {
  fields = h.fields;
  read = h.read;
  table = record {
    gtfs_realtime_version = (h.table.gtfs_realtime_version.0, e ∙ h.table.gtfs_realtime_version.1);
    incrementality =
        ap (λ (n : Option ℕ). unwrap_or (option_map (λ n. cast_signed w32 (n % 2 ^ 32)) n) (pos 0))
        h.table.incrementality;
    timestamp = h.table.timestamp;
  };
}

-- what is answered
abbrev pub Finishes : List ℕ → List Entity → Result FeedHead FeedFault → Type 0
Finishes bytes given (Ok head) =
    MeansFeed bytes (feed_of head given) × ((fault : FeedFault) → ¬ HasFault bytes fault)
Finishes bytes given (Err fault) = IsFeedFault bytes fault

version_by : (bytes : List ℕ) (given : List Entity) (fields : List WireField) (head : HeadSoFar) (taken : ℕ)
    (version : Option (List ℕ)) → head.version ≡ version → AreFields bytes fields → Faultless bytes
    → AreMessages OfFeedEntity 2 fields given → IsMessage OfHeadSoFar 1 fields (Some head) → taken ≡ length bytes
    → Finishes bytes given (head_with version head taken)
version_by bytes given fields head taken None e read none entities known len =
    let joined = some_joined (bodies_of 1 fields) head known.1 in
    let lacks = nothing_last (bodies_of 1 joined.1.fields) (sym e ∙ joined.1.table.gtfs_realtime_version.1) in
    subst (λ (n : ℕ). IsFeedFault bytes (MissingField n GtfsRealtimeVersion)) (sym len)
    (missing_version bytes fields joined.1.fields read none joined.0 joined.1.read lacks)
version_by bytes given fields head taken (Some version) e read none entities known len =
    let joined = some_joined (bodies_of 1 fields) head known.1 in
    let there = text_there (bodies_of 1 joined.1.fields) version
    (sym e ∙ joined.1.table.gtfs_realtime_version.1) in (
      record {
        fields = fields;
        read = read;
        table = record {
          header = (known.0, whole_joined (bodies_of 1 fields) head version given (sym e) known.1);
          entity = entities;
        };
      },
      nothing_missing bytes fields joined.1.fields read none joined.0 joined.1.read there,
    )

whole_by : (bytes : List ℕ) (given : List Entity) (fields : List WireField) (head : Option HeadSoFar) (taken : ℕ)
    → AreFields bytes fields → Faultless bytes → AreMessages OfFeedEntity 2 fields given
    → IsMessage OfHeadSoFar 1 fields head → taken ≡ length bytes → Finishes bytes given (whole_head head taken)
whole_by bytes given fields None taken read none entities known len =
    subst (λ (n : ℕ). IsFeedFault bytes (MissingField n Header)) (sym len)
    (missing_header bytes fields read none (none_joined (bodies_of 1 fields) known.1))
whole_by bytes given fields (Some head) taken read none entities known len =
    version_by bytes given fields head taken head.version refl read none entities known len

pub finishes : (s : Seen) (bytes : List ℕ) (given : List Entity) → s.fault ≡ None → tops.place_of s.top ≡ Between
    → StandsFor s bytes given → Finishes bytes given (whole_head s.head s.taken)
finishes s bytes given none at_end h =
    elim h.stands [
      | inl r ↦
          let place = between_at s.top bytes r.top at_end in
          let empty : length r.begun ≡ 0 =
          omega (arith, place, r.place, ap length r.joined, length-append r.front r.begun) in
          let whole : r.front ≡ bytes = sym (append-nil r.front)
          ∙ ap (λ (l : List ℕ). r.front ++ l) (sym (nil_from_length r.begun empty)) ∙ sym r.joined in
          whole_by bytes given r.fields s.head s.taken (subst (λ (b : List ℕ). AreFields b r.fields) whole r.read)
          (subst (λ (b : List ℕ). Faultless b) whole r.faultless) r.entities r.head h.taken
      | inr stop ↦ (let d = sym none ∙ stop.found in absurd cc)
    ]

-- ---- clause by clause

pub none_of : {X : Type 0} (found : Option X) → ((x : X) → found ≡ Some x → ⊥) → found ≡ None
none_of None none = refl
none_of (Some x) none = absurd (none x refl)

pub head_said : (bytes : List ℕ) (given : List Entity) (answer : Result FeedHead FeedFault)
    → Finishes bytes given answer → IfOk answer (λ head. MeansFeed bytes (feed_of head given))
head_said bytes given (Ok head) h = h.0
head_said bytes given (Err fault) h = tt

pub faultless_said : (bytes : List ℕ) (given : List Entity) (answer : Result FeedHead FeedFault)
    → Finishes bytes given answer → IfOk answer (λ _. (fault : FeedFault) → ¬ HasFault bytes fault)
faultless_said bytes given (Ok head) h = h.1
faultless_said bytes given (Err fault) h = tt

pub fault_said : (bytes : List ℕ) (given : List Entity) (answer : Result FeedHead FeedFault)
    → Finishes bytes given answer → IfErr answer (λ fault. IsFeedFault bytes fault)
fault_said bytes given (Ok head) h = tt
fault_said bytes given (Err fault) h = h
