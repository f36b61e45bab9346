-- What a reader of a feed in pieces stands for: the bytes that came so far, and the entities that it gave of them (GTFS
-- Realtime reference, FeedMessage).
use Rattle.std.specs.Prelude.{◌≡◌, ◌≢◌, ℕ, ◌+◌, ◌≤◌, List, [], ◌∷◌, ◌++◌, length, take, Option, Some, None, ◌⊎◌}
use Rattle.gw_base.specs.declared.messages.Entity.{Entity}
use Rattle.gw_base.specs.declared.messages.Feed.{Feed}
use Rattle.gw_base.specs.declared.messages.FeedHead.{FeedHead}
use Rattle.wire_fields.specs.Grammar.{WireField, AreFields}
use Rattle.wire_fields.specs.TopReading as tops
use Rattle.feed_reading.specs.declared.fault.FeedFault.{FeedFault}
use Rattle.feed_reading.specs.declared.feed_reader.state.Body.{Body}
use Rattle.feed_reading.specs.declared.feed_reader.state.Body.TheVariants.{Other, Header, Entity as OfEntity}
use Rattle.feed_reading.specs.declared.feed_reader.state.HeadSoFar.{HeadSoFar}
use Rattle.feed_reading.specs.Faults.{IsFeedFault}
use Rattle.feed_reading.specs.FieldFaults.{Faultless, place_of}
use Rattle.feed_reading.specs.Limits.{entity_limit}
use Rattle.feed_reading.specs.Meaning.{IsUint64, IsText, IsMessage, AreMessages}
use Rattle.feed_reading.specs.Tables.{OfFeedEntity}

-- what is said of a header's fields so far: none of them has to be there yet
pub record OfHeadSoFar (fields : List WireField) (head : HeadSoFar) : Type 0 where
  pub gtfs_realtime_version : IsText 1 fields head.version
  pub incrementality : IsUint64 2 fields head.incrementality
  pub timestamp : IsUint64 3 fields head.timestamp

-- a reader as contracts see it: how many bytes came and how many entities it gave; where it stands among the feed's
-- fields; which body is being read, and the bytes held of it; what the header says so far; and the fault that was found
pub record Seen : Type 0 where
  pub taken : ℕ
  pub given : ℕ
  pub top : tops.Top
  pub body : Body
  pub held : List ℕ
  pub head : Option HeadSoFar
  pub fault : Option FeedFault

-- the body of a field of this number and length is being read, whose tag stands at this place; after the tag and the
-- length, these bytes of it came
pub record IsHeld (number at len : ℕ) (top : tops.Top) (begun held : List ℕ) : Type 0 where
  pub left : ℕ
  pub place : tops.place_of top ≡ tops.InField number len left
  pub tag : at ≡ top.at
  pub lead : List ℕ
  pub joined : begun ≡ lead ++ held
  pub counted : length held + left ≡ len

-- what is held: of a header or an entity the bytes of its body that came; of anything else none
abbrev pub HoldsBody : Body → tops.Top → List ℕ → List ℕ → Type 0
HoldsBody (Header at len) top begun held = IsHeld 1 at len top begun held
HoldsBody (OfEntity at len) top begun held = IsHeld 2 at len top begun held × (len ≤ entity_limit)
HoldsBody Other top begun held =
    (held ≡ []) × ((number len left : ℕ) → tops.place_of top ≡ tops.InField number len left
    → (number ≢ 1) × (number ≢ 2))

-- no fault so far: the bytes are fields without a fault, but that the header or its version may be missing, and what
-- came of the next field. The entities are those of these fields
pub record ReadsOn (reader : Seen) (bytes : List ℕ) (given : List Entity) : Type 0 where
  pub no_fault : reader.fault ≡ None
  pub front : List ℕ
  pub begun : List ℕ
  pub joined : bytes ≡ front ++ begun
  pub fields : List WireField
  pub read : AreFields front fields
  pub faultless : Faultless front
  pub entities : AreMessages OfFeedEntity 2 fields given
  pub head : IsMessage OfHeadSoFar 1 fields reader.head
  pub place : reader.top.at ≡ length front
  pub top : tops.StandsFor reader.top bytes
  pub body : HoldsBody reader.body reader.top begun reader.held

-- a fault was found, which stays whatever follows. The entities are those of the fields before the one with the fault,
-- which are the longest list of fields that ends no later than the fault's place
pub record StopsAtFault (reader : Seen) (bytes : List ℕ) (given : List Entity) : Type 0 where
  pub fault : FeedFault
  pub found : reader.fault ≡ Some fault
  pub stays : (more : List ℕ) → IsFeedFault (bytes ++ more) fault
  pub front : List ℕ
  pub rest : List ℕ
  pub joined : bytes ≡ front ++ rest
  pub fields : List WireField
  pub read : AreFields front fields
  pub entities : AreMessages OfFeedEntity 2 fields given
  pub before : length front ≤ place_of fault
  pub longest : (more other after : List ℕ) (others : List WireField) → bytes ++ more ≡ other ++ after
      → AreFields other others → length other ≤ place_of fault → length other ≤ length front
  pub nothing_held : reader.held ≡ []

-- the reader stands for these bytes, of which it has given these entities
pub record StandsFor (reader : Seen) (bytes : List ℕ) (given : List Entity) : Type 0 where
  pub taken : reader.taken ≡ length bytes
  pub counted : reader.given ≡ length given
  pub stands : ReadsOn reader bytes given ⊎ StopsAtFault reader bytes given

-- what comes of a piece: so many bytes of it were taken, and up to there no entity ended; or one ends just there, which
-- is given with its index
abbrev pub GoesOn : Seen → List ℕ → List ℕ → List Entity → ℕ × Option (ℕ × Entity) → Type 0
GoesOn reader bytes piece given (used, None) = StandsFor reader (bytes ++ take used piece) given
GoesOn reader bytes piece given (used, Some (index, entity)) =
    (index ≡ length given) × StandsFor reader (bytes ++ take used piece) (given ++ entity ∷ [])
    × (tops.place_of reader.top ≡ tops.Between)

-- how many bytes may be held at a place among the fields: of a header or an entity no more than its stated length, of
-- an entity no more than the limit, and of anything else none
abbrev pub MayHold : tops.Place → ℕ → Type 0
MayHold tops.Between count = count ≡ 0
MayHold tops.Elsewhere count = count ≡ 0
MayHold (tops.InField number len left) count =
    (count ≤ len) × (number ≡ 2 → count ≤ entity_limit) × (number ≢ 1 → number ≢ 2 → count ≡ 0)

-- the feed of a header and entities
abbrev pub feed_of : FeedHead → List Entity → Feed
feed_of head entities = record {
  version = head.version;
  incrementality = head.incrementality;
  timestamp = head.timestamp;
  entities = entities;
}
