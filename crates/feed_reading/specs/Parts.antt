-- What is known of each message after some of its fields, as the quick reader keeps it: of a number the last one,
-- before it is read by its type.
use Rattle.std.specs.Prelude.{◌≡◌, List, [], ◌∷◌, ◌++◌}
use Rattle.gw_base.specs.declared.messages.Entity.{Entity}
use Rattle.wire_fields.specs.Grammar.{WireField}
use Rattle.feed_reading.specs.declared.quick.alerts.AlertParts.{AlertParts}
use Rattle.feed_reading.specs.declared.quick.feeds.EntityParts.{EntityParts}
use Rattle.feed_reading.specs.declared.quick.trips.EventParts.{EventParts}
use Rattle.feed_reading.specs.declared.quick.feeds.FeedParts.{FeedParts}
use Rattle.feed_reading.specs.declared.quick.feeds.HeaderParts.{HeaderParts}
use Rattle.feed_reading.specs.declared.quick.alerts.PeriodParts.{PeriodParts}
use Rattle.feed_reading.specs.declared.quick.alerts.SelectorParts.{SelectorParts}
use Rattle.feed_reading.specs.declared.quick.trips.PropertiesParts.{PropertiesParts}
use Rattle.feed_reading.specs.declared.quick.trips.StopParts.{StopParts}
use Rattle.feed_reading.specs.declared.quick.alerts.StringParts.{StringParts}
use Rattle.feed_reading.specs.declared.quick.alerts.TranslationParts.{TranslationParts}
use Rattle.feed_reading.specs.declared.quick.trips.TripParts.{TripParts}
use Rattle.feed_reading.specs.declared.quick.trips.UpdateParts.{UpdateParts}
use Rattle.feed_reading.specs.Meaning.{IsUint64, IsText, AreMessages}
use Rattle.feed_reading.specs.Tables.{OfStopTimeUpdate, OfTimeRange, OfEntitySelector, OfTranslation, OfFeedEntity}
use Rattle.feed_reading.specs.Partly.{seen, IsFound, AreShortEntities}

pub record AfterEvent (fields : List WireField) (parts : EventParts) : Type 0 where
  pub delay : IsUint64 1 fields parts.delay
  pub time : IsUint64 2 fields parts.time

pub record AfterPeriod (fields : List WireField) (parts : PeriodParts) : Type 0 where
  pub start : IsUint64 1 fields parts.start
  pub end : IsUint64 2 fields parts.end

pub record AfterTrip (fields : List WireField) (parts : TripParts) : Type 0 where
  pub trip_id : IsText 1 fields (seen parts.trip_id)
  pub start_date : IsText 3 fields (seen parts.start_date)
  pub relation : IsUint64 4 fields parts.relation
  pub route_id : IsText 5 fields (seen parts.route_id)

pub record AfterProperties (fields : List WireField) (parts : PropertiesParts) : Type 0 where
  pub assigned : IsText 1 fields (seen parts.assigned)

pub record AfterStop (fields : List WireField) (parts : StopParts) : Type 0 where
  pub sequence : IsUint64 1 fields parts.sequence
  pub arrival : IsFound 2 fields parts.arrival
  pub departure : IsFound 3 fields parts.departure
  pub stop_id : IsText 4 fields (seen parts.stop_id)
  pub relation : IsUint64 5 fields parts.relation
  pub properties : IsFound 6 fields parts.properties

pub record AfterUpdate (fields : List WireField) (parts : UpdateParts) : Type 0 where
  pub trip : IsFound 1 fields parts.trip
  pub updates : AreMessages OfStopTimeUpdate 2 fields parts.updates
  pub timestamp : IsUint64 4 fields parts.timestamp

pub record AfterSelector (fields : List WireField) (parts : SelectorParts) : Type 0 where
  pub agency_id : IsText 1 fields (seen parts.agency_id)
  pub route_id : IsText 2 fields (seen parts.route_id)
  pub trip : IsFound 4 fields parts.trip
  pub stop_id : IsText 5 fields (seen parts.stop_id)

pub record AfterTranslation (fields : List WireField) (parts : TranslationParts) : Type 0 where
  pub text : IsText 1 fields (seen parts.text)
  pub language : IsText 2 fields (seen parts.language)

pub record AfterString (fields : List WireField) (parts : StringParts) : Type 0 where
  pub translations : AreMessages OfTranslation 1 fields parts.translations

pub record AfterAlert (fields : List WireField) (parts : AlertParts) : Type 0 where
  pub periods : AreMessages OfTimeRange 1 fields parts.periods
  pub selectors : AreMessages OfEntitySelector 5 fields parts.selectors
  pub cause : IsUint64 6 fields parts.cause
  pub effect : IsUint64 7 fields parts.effect
  pub header : IsFound 10 fields parts.header
  pub description : IsFound 11 fields parts.description

pub record AfterEntity (fields : List WireField) (parts : EntityParts) : Type 0 where
  pub id : IsText 1 fields (seen parts.id)
  pub deleted : IsUint64 2 fields parts.deleted
  pub trip_update : IsFound 3 fields parts.trip_update
  pub alert : IsFound 5 fields parts.alert

-- the entity of the parts after others
abbrev pub AddsEntity : EntityParts → List Entity → List Entity → Type 0
AddsEntity parts old new =
    (entity : Entity) × (new ≡ old ++ entity ∷ [])
    × ((fields : List WireField) → AfterEntity fields parts → OfFeedEntity fields entity)

pub record AfterHeader (fields : List WireField) (parts : HeaderParts) : Type 0 where
  pub version : IsText 1 fields (seen parts.version)
  pub incrementality : IsUint64 2 fields parts.incrementality
  pub timestamp : IsUint64 3 fields parts.timestamp

pub record AfterFeed (fields : List WireField) (parts : FeedParts) : Type 0 where
  pub header : IsFound 1 fields parts.header
  pub entities : AreShortEntities fields parts.entities
