-- What is written within the limit of an entity has no fault, and is read again.
use Rattle.std.proofs.Common.{◌≡◌, ◌∙◌, ◌≤◌, ◌<◌, ◌^◌, ◌++◌, ◌∷◌, ℕ, ℤ, List, [], length, length-append, Result, Ok, Err, IfOk, refl, sym, ap, subst, arith}
use Rattle.std.proofs.lemmas.Int.{ints}
use Rattle.std.proofs.lemmas.List.Elements.{filter_map-append}
use Rattle.std.specs.Prelude.{IfErr, MatchResult, unsigned_abs}
use Rattle.std.specs.List.{AllByRecursion, AllZip, flat_map}
use Rattle.gw_base.specs.Moments.{IsMoment}
use Rattle.gw_base.specs.declared.messages.Entity.{Entity}
use Rattle.gw_base.specs.declared.messages.Feed.{Feed}
use Rattle.wire_fields.specs.Grammar.{Bytes, WireField, IsSpelling, AreFields}
use Rattle.wire_fields.specs.Spelling.{bytes_field, varint}
use Rattle.wire_fields.proofs.Broken.{fields_once}
use Rattle.wire_fields.proofs.Lists.{Concatenates-append}
use Rattle.wire_fields.proofs.Varints.{length-varint_10}
use Rattle.wire_fields.proofs.Written.{bytes_field_written}
use Rattle.feed_reading.specs.declared.fault.FeedFault.{FeedFault}
use Rattle.feed_reading.specs.declared.fault.FeedFault.TheVariants.{EntityTooLong, Wire, NotText, MissingField, Memory}
use Rattle.feed_reading.specs.Faults.{HasFault, IsTold}
use Rattle.feed_reading.specs.Meaning.{bodies, Means}
use Rattle.feed_reading.specs.Limits.{entity_limit}
use Rattle.feed_reading.specs.Partly.{AreShort, MeansShortFeed}
use Rattle.feed_reading.specs.Tables.{MeansEntity, MeansFeed, OfFeedEntity, full_dataset}
use Rattle.feed_messages.specs.Readable.{IsReadable}
use Rattle.feed_writing.specs.Writable.{IsWritable}
use Rattle.feed_writing.specs.Written.{feed_entity, header, written, written_feed}
use Rattle.feed_messages.proofs.Headers.{means_header}
use Rattle.feed_messages.proofs.Meant.{means_feed, means_written}
use Rattle.feed_reading.proofs.OneMeaning.{one_feed}
use Rattle.feed_reading.proofs.ShortEntities.{means_short, short_has_no_fault}

-- the bytes of entities that can be written mean them
pub each_meant : (entities : List Entity) → AllByRecursion IsWritable entities
    → AllByRecursion (λ entity. MeansEntity (written entity) entity) entities
each_meant [] h = tt
each_meant (entity ∷ entities) h = (means_written entity h.0.sound h.0.counted, each_meant entities h.1)

-- a body within the limit can be counted with its tag and its length
few : (body : List ℕ) → length body ≤ entity_limit → length (bytes_field 2 body) < 2 ^ 64
few body short =
    let tag : length (varint 18) ≤ 10 = length-varint_10 18 (omega arith) in
    let size : length (varint (length body)) ≤ 10 = length-varint_10 (length body) (omega arith) in
    simp length-append (omega arith)

each_writable : (entities : List Entity) → AllByRecursion IsReadable entities → AllByRecursion IsWritable entities
each_writable [] h = tt
each_writable (entity ∷ entities) h =
    (record { sound = h.0.sound; counted = few (feed_entity entity) h.0.short }, each_writable entities h.1)

-- the fields of a feed that entities are
abbrev entity_fields : List Entity → List WireField
entity_fields [] = []
entity_fields (entity ∷ entities) = record { number = 2; payload = Bytes (feed_entity entity) } ∷ entity_fields entities

are_fields : (entities : List Entity) → AllByRecursion IsReadable entities
    → AreFields (flat_map written entities) (entity_fields entities)
are_fields [] h = refl
are_fields (entity ∷ entities) h =
    let least : length (feed_entity entity) ≤ entity_limit = h.0.short in (
      written entity,
      flat_map written entities,
      refl,
      bytes_field_written 2 (feed_entity entity) (omega arith) (omega arith) (omega arith),
      are_fields entities h.1,
    )

-- their bodies are within the limit, and a header has none
short_bodies : (entities : List Entity) → AllByRecursion IsReadable entities
    → AreShort (bodies 2 (entity_fields entities))
short_bodies [] h = tt
short_bodies (entity ∷ entities) h = (h.0.short, short_bodies entities h.1)

no_bodies : (bodies : List (List ℕ)) → AllZip (Means OfFeedEntity) bodies [] → bodies ≡ []
no_bodies [] h = refl
no_bodies (body ∷ bodies) h = absurd h

means_short_feed : (moment : ℤ) (entities : List Entity) → unsigned_abs moment < 2 ^ 64
    → AllByRecursion IsReadable entities
    → MeansShortFeed (header moment ++ flat_map written entities) (full_dataset moment entities)
means_short_feed moment entities small readable =
    let means = means_feed moment entities small (each_meant entities (each_writable entities readable)) in
    let front = means_header moment small in
    let read = Concatenates-append (IsSpelling 64) front.fields (entity_fields entities) (header moment)
    (flat_map written entities) front.read (are_fields entities readable) in
    let all : bodies 2 (front.fields ++ entity_fields entities) ≡ bodies 2 (entity_fields entities) =
    filter_map-append _ front.fields (entity_fields entities)
    ∙ ap (λ (first : List (List ℕ)). first ++ bodies 2 (entity_fields entities))
    (no_bodies (bodies 2 front.fields) front.table.entity) in
    let same = fields_once (header moment ++ flat_map written entities) (front.fields ++ entity_fields entities)
    means.fields read means.read in
    let short : AreShort (bodies 2 (front.fields ++ entity_fields entities)) =
    rw all (short_bodies entities readable) in
    record {
      fields = means.fields;
      read = means.read;
      table = (means.table, subst (λ (fields : List WireField). AreShort (bodies 2 fields)) same short);
    }

-- bytes that a header and such entities are
pub written_short_feed : (bytes : List ℕ) (moment : ℤ) (entities : List Entity) → IsMoment moment
    → AllByRecursion IsReadable entities → bytes ≡ written_feed moment entities
    → MeansShortFeed bytes (full_dataset moment entities)
written_short_feed bytes moment entities is readable same =
    let small : unsigned_abs moment < 2 ^ 64 = omega (arith, ints) in
    subst (λ (b : List ℕ). MeansShortFeed b (full_dataset moment entities)) (sym same)
    (means_short_feed moment entities small readable)

-- where bytes have no fault, want of memory alone is told
only_memory : (bytes : List ℕ) (fault : FeedFault) → ((other : FeedFault) → ¬ HasFault bytes other)
    → IsTold bytes fault → fault ≡ Memory
only_memory bytes (EntityTooLong at) none h = absurd (none (EntityTooLong at) h.0)
only_memory bytes (Wire fault) none h = absurd (none (Wire fault) h.0)
only_memory bytes (NotText at) none h = absurd (none (NotText at) h.0)
only_memory bytes (MissingField at name) none h = absurd (none (MissingField at name) h.0)
only_memory bytes Memory none h = refl

-- a reader of bytes that mean a feed of short entities answers this feed, or that memory ran out
pub answers_it : (bytes : List ℕ) (feed : Feed) (result : Result Feed FeedFault) → MeansShortFeed bytes feed
    → IfOk result (λ found. MeansFeed bytes found) → IfErr result (λ fault. IsTold bytes fault)
    → MatchResult result (λ found. found ≡ feed) (λ fault. fault ≡ Memory)
answers_it bytes feed (Ok found) short means told = one_feed bytes found feed means (means_short bytes feed short)
answers_it bytes feed (Err fault) short means told = only_memory bytes fault (short_has_no_fault bytes feed short) told
