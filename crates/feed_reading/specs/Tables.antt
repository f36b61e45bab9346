-- Which fields a message has: of each its number, its kind, and what of the message it says (GTFS Realtime reference,
-- gtfs-realtime.proto). A field that has to be there is one of a kind that may be missing and is not.
use Rattle.std.specs.Prelude.{◌≡◌, ℕ, ℤ, pos, List, [], ◌∷◌, ◌++◌, codes, Option, Some, None, unwrap_or, unsigned_abs}
use Rattle.gw_base.specs.declared.messages.Alert.{Alert}
use Rattle.gw_base.specs.declared.messages.Entity.{Entity}
use Rattle.gw_base.specs.declared.messages.Event.{Event}
use Rattle.gw_base.specs.declared.messages.Feed.{Feed}
use Rattle.gw_base.specs.declared.messages.Period.{Period}
use Rattle.gw_base.specs.declared.messages.Selector.{Selector}
use Rattle.gw_base.specs.declared.messages.StopUpdate.{StopUpdate}
use Rattle.gw_base.specs.declared.messages.Translation.{Translation}
use Rattle.gw_base.specs.declared.messages.TripDescriptor.{TripDescriptor}
use Rattle.gw_base.specs.declared.messages.TripUpdate.{TripUpdate}
use Rattle.wire_fields.specs.Grammar.{Bytes, WireField, AreFields}
use Rattle.feed_reading.specs.Meaning.{IsUint64, IsUint32, IsInt64, IsInt32, IsEnum, IsBool, IsText, Means, IsMessage, AreMessages}

pub record OfTripDescriptor (fields : List WireField) (trip : TripDescriptor) : Type 0 where
  pub trip_id : IsText 1 fields trip.trip_id
  pub start_date : IsText 3 fields trip.start_date
  pub schedule_relationship : IsEnum 4 (pos 0) fields trip.relation
  pub route_id : IsText 5 fields trip.route_id

pub record OfStopTimeEvent (fields : List WireField) (event : Event) : Type 0 where
  pub delay : IsInt32 1 fields event.delay
  pub time : IsInt64 2 fields event.time

-- a StopTimeProperties is the id of the stop that is assigned
abbrev pub OfStopTimeProperties : List WireField → Option (List ℕ) → Type 0
OfStopTimeProperties fields assigned = IsText 1 fields assigned

-- and assigns none where it is missing
pub record IsAssigned (number : ℕ) (fields : List WireField) (assigned : Option (List ℕ)) : Type 0 where
  pub found : Option (Option (List ℕ))
  pub message : IsMessage OfStopTimeProperties number fields found
  pub same : assigned ≡ unwrap_or found None

pub record OfStopTimeUpdate (fields : List WireField) (update : StopUpdate) : Type 0 where
  pub stop_sequence : IsUint32 1 fields update.sequence
  pub arrival : IsMessage OfStopTimeEvent 2 fields update.arrival
  pub departure : IsMessage OfStopTimeEvent 3 fields update.departure
  pub stop_id : IsText 4 fields update.stop_id
  pub schedule_relationship : IsEnum 5 (pos 0) fields update.relation
  pub stop_time_properties : IsAssigned 6 fields update.assigned

pub record OfTripUpdate (fields : List WireField) (update : TripUpdate) : Type 0 where
  pub trip : IsMessage OfTripDescriptor 1 fields (Some update.trip)
  pub stop_time_update : AreMessages OfStopTimeUpdate 2 fields update.updates
  pub timestamp : IsUint64 4 fields update.timestamp

pub record OfTimeRange (fields : List WireField) (period : Period) : Type 0 where
  pub start : IsUint64 1 fields period.start
  pub end : IsUint64 2 fields period.end

pub record OfEntitySelector (fields : List WireField) (selector : Selector) : Type 0 where
  pub agency_id : IsText 1 fields selector.agency_id
  pub route_id : IsText 2 fields selector.route_id
  pub trip : IsMessage OfTripDescriptor 4 fields selector.trip
  pub stop_id : IsText 5 fields selector.stop_id

pub record OfTranslation (fields : List WireField) (translation : Translation) : Type 0 where
  pub text : IsText 1 fields (Some translation.text)
  pub language : IsText 2 fields translation.language

-- a TranslatedString is the list of its translations
abbrev pub OfTranslatedString : List WireField → List Translation → Type 0
OfTranslatedString fields translations = AreMessages OfTranslation 1 fields translations

-- and has none where it is missing
pub record AreTranslations (number : ℕ) (fields : List WireField) (translations : List Translation) : Type 0 where
  pub found : Option (List Translation)
  pub message : IsMessage OfTranslatedString number fields found
  pub same : translations ≡ unwrap_or found []

pub record OfAlert (fields : List WireField) (alert : Alert) : Type 0 where
  pub active_period : AreMessages OfTimeRange 1 fields alert.periods
  pub informed_entity : AreMessages OfEntitySelector 5 fields alert.selectors
  pub cause : IsEnum 6 (pos 1) fields alert.cause
  pub effect : IsEnum 7 (pos 8) fields alert.effect
  pub header_text : AreTranslations 10 fields alert.header
  pub description_text : AreTranslations 11 fields alert.description

pub record OfFeedEntity (fields : List WireField) (entity : Entity) : Type 0 where
  pub id : IsText 1 fields (Some entity.id)
  pub is_deleted : IsBool 2 fields entity.deleted
  pub trip_update : IsMessage OfTripUpdate 3 fields entity.trip_update
  pub alert : IsMessage OfAlert 5 fields entity.alert

-- the header of a feed
pub record Header : Type 0 where
  pub version : List ℕ
  pub incrementality : ℤ
  pub timestamp : Option ℕ

abbrev pub header_of : Feed → Header
header_of feed = record { version = feed.version; incrementality = feed.incrementality; timestamp = feed.timestamp }

pub record OfFeedHeader (fields : List WireField) (header : Header) : Type 0 where
  pub gtfs_realtime_version : IsText 1 fields (Some header.version)
  pub incrementality : IsEnum 2 (pos 0) fields header.incrementality
  pub timestamp : IsUint64 3 fields header.timestamp

pub record OfFeedMessage (fields : List WireField) (feed : Feed) : Type 0 where
  pub header : IsMessage OfFeedHeader 1 fields (Some (header_of feed))
  pub entity : AreMessages OfFeedEntity 2 fields feed.entities

-- the bytes mean the feed
abbrev pub MeansFeed : List ℕ → Feed → Type 0
MeansFeed bytes feed = Means OfFeedMessage bytes feed

-- the bytes are one field of a feed, and mean the entity
pub record MeansEntity (bytes : List ℕ) (entity : Entity) : Type 0 where
  pub body : List ℕ
  pub field : AreFields bytes (record { number = 2; payload = Bytes body } ∷ [])
  pub means : Means OfFeedEntity body entity

-- a full dataset of version 2.0 that is made at that moment, of these entities
abbrev pub full_dataset : ℤ → List Entity → Feed
full_dataset moment entities =
    record {
      version = codes "2.0";
      incrementality = pos 0;
      timestamp = Some (unsigned_abs moment);
      entities = entities;
    }

-- the feed with an entity more
abbrev pub with_entity : Feed → Entity → Feed
with_entity feed entity =
    record {
      version = feed.version;
      incrementality = feed.incrementality;
      timestamp = feed.timestamp;
      entities = feed.entities ++ entity ∷ [];
    }
