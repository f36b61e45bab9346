-- The served feed has no fault.
use Rattle.std.proofs.Common.{◌≡◌, ◌∙◌, ◌≤◌, ◌++◌, ◌∷◌, ℕ, ℤ, List, [], length, refl, ap, subst, arith}
use Rattle.std.proofs.lemmas.List.Elements.{filter_map-append}
use Rattle.std.specs.List.{AllByRecursion, AllZip, flat_map}
use Rattle.gw_base.specs.declared.messages.Entity.{Entity}
use Rattle.wire_fields.specs.Grammar.{Bytes, WireField, IsSpelling, AreFields}
use Rattle.wire_fields.proofs.Broken.{fields_once}
use Rattle.wire_fields.proofs.Lists.{Concatenates-append}
use Rattle.wire_fields.proofs.Written.{bytes_field_written}
use Rattle.feed_reading.specs.declared.fault.FeedFault.{FeedFault}
use Rattle.feed_reading.specs.Faults.{HasFault}
use Rattle.feed_reading.specs.Limits.{entity_limit}
use Rattle.feed_reading.specs.Meaning.{bodies, Means}
use Rattle.feed_reading.specs.Partly.{AreShort}
use Rattle.feed_reading.specs.Tables.{MeansFeed, OfFeedEntity, full_dataset}
use Rattle.feed_reading.proofs.ShortEntities.{short_has_no_fault}
use Rattle.feed_writing.specs.Written.{feed_entity, header, written}
use Rattle.gateway_core.proofs.ShortLemmas.{IsShort}

-- the fields of a feed that entities are
abbrev entity_fields : List Entity → List WireField
entity_fields [] = []
entity_fields (entity ∷ entities) = record { number = 2; payload = Bytes (feed_entity entity) } ∷ entity_fields entities

are_fields : (entities : List Entity) → AllByRecursion IsShort entities → AreFields (flat_map written entities) (entity_fields entities)
are_fields [] short = refl
are_fields (entity ∷ entities) short =
    let least : length (feed_entity entity) ≤ entity_limit = short.0 in (
      written entity,
      flat_map written entities,
      refl,
      bytes_field_written 2 (feed_entity entity) (omega arith) (omega arith) (omega arith),
      are_fields entities short.1,
    )

short_bodies : (entities : List Entity) → AllByRecursion IsShort entities → AreShort (bodies 2 (entity_fields entities))
short_bodies [] short = tt
short_bodies (entity ∷ entities) short = (short.0, short_bodies entities short.1)

no_bodies : (all : List (List ℕ)) → AllZip (Means OfFeedEntity) all [] → all ≡ []
no_bodies [] h = refl
no_bodies (body ∷ all) h = absurd h

-- a header and short entities, which mean a feed, have no fault
pub faultless : (at : ℤ) (entities : List Entity) (feed : List ℕ) → MeansFeed (header at) (full_dataset at []) → AllByRecursion IsShort entities → feed ≡ header at ++ flat_map written entities
    → MeansFeed feed (full_dataset at entities) → (fault : FeedFault) → ¬ HasFault feed fault
faultless at entities feed front short is means =
    let read = Concatenates-append (IsSpelling 64) front.fields (entity_fields entities) (header at) (flat_map written entities) front.read (are_fields entities short) in
    let all : bodies 2 (front.fields ++ entity_fields entities) ≡ bodies 2 (entity_fields entities) =
    filter_map-append _ front.fields (entity_fields entities)
    ∙ ap (λ (first : List (List ℕ)). first ++ bodies 2 (entity_fields entities)) (no_bodies (bodies 2 front.fields) front.table.entity) in
    let same = fields_once (header at ++ flat_map written entities) (front.fields ++ entity_fields entities) means.fields read (subst (λ (b : List ℕ). AreFields b means.fields) is means.read) in
    let few : AreShort (bodies 2 (front.fields ++ entity_fields entities)) = rw all (short_bodies entities short) in
    short_has_no_fault feed (full_dataset at entities) (record {
      fields = means.fields;
      read = means.read;
      table = (means.table, subst (λ (fields : List WireField). AreShort (bodies 2 fields)) same few);
    })
