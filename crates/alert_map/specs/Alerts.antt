-- The alert of a situation (GTFS Realtime reference, Alert, EntitySelector, TimeRange, TranslatedString), and its
-- entity.
use Rattle.std.specs.Prelude.{◌≡◌, ℕ, false, List, [], ◌∷◌, ◌++◌, codes, length, map, Option, Some, None}
use Rattle.gw_base.specs.Enums.{trip_scheduled}
use Rattle.gw_base.specs.declared.messages.Alert.{Alert}
use Rattle.gw_base.specs.declared.messages.Entity.{Entity}
use Rattle.gw_base.specs.declared.messages.Period.{Period}
use Rattle.gw_base.specs.declared.messages.Selector.{Selector}
use Rattle.gw_base.specs.declared.messages.Translation.{Translation}
use Rattle.gw_base.specs.declared.messages.TripDescriptor.{TripDescriptor}
use Rattle.service_day.specs.DayTexts.{compact_text}
use Rattle.timetable.specs.Table.{Table}
use Rattle.journey_model.specs.Ids.{id_of}
use Rattle.journey_model.specs.declared.situation.Ref.{Ref}
use Rattle.journey_model.specs.declared.situation.Ref.TheVariants.{Route, Stop, Journey}
use Rattle.journey_model.specs.declared.situation.Situation.{Situation}
use Rattle.journey_model.specs.declared.situation.ValidPeriod.{ValidPeriod}
use Rattle.feed_writing.specs.Written.{feed_entity, written}

-- the selectors of a route, of a stop, and of a trip on a day, which is SCHEDULED
abbrev pub route_selector : List ℕ → Selector
route_selector route_id = record { agency_id = None; route_id = Some route_id; trip = None; stop_id = None }

abbrev pub stop_selector : List ℕ → Selector
stop_selector stop_id = record { agency_id = None; route_id = None; trip = None; stop_id = Some stop_id }

abbrev pub trip_on : List ℕ → List ℕ → TripDescriptor
trip_on trip_id date =
    record { trip_id = Some trip_id; start_date = Some date; relation = trip_scheduled; route_id = None }

abbrev pub trip_selector : List ℕ → List ℕ → Selector
trip_selector trip_id date =
    record { agency_id = None; route_id = None; trip = Some (trip_on trip_id date); stop_id = None }

-- the selector of what a situation refers to; the start_date of a journey is its service day as `YYYYMMDD`
abbrev pub selector_of : Table → Ref → Selector
selector_of table (Route route) = route_selector (id_of table.routes route.0)
selector_of table (Stop stop) = stop_selector (id_of table.stops stop.0)
selector_of table (Journey trip day) = trip_selector (id_of table.trips trip.0) (compact_text day)

-- an active period, whose bounds are those of the situation's
abbrev pub period_of : ValidPeriod → Period
period_of period = record { start = period.start; end = period.end }

-- a text in one translation without a language, or none
abbrev pub translations : Option (List ℕ) → List Translation
translations None = []
translations (Some text) = record { text = text; language = None } ∷ []

-- the alert of a situation: its periods and what it refers to in their order, its cause and effect, and its texts
abbrev pub alert : Table → Situation → Alert
alert table one = record {
  periods = map period_of one.periods;
  selectors = map (selector_of table) one.refs;
  cause = one.cause;
  effect = one.effect;
  header = translations one.summary;
  description = translations one.description;
}

-- the id of its entity
abbrev pub alert_id : List ℕ → List ℕ
alert_id number = codes "alert:" ++ number

-- the entity with which it is served
abbrev pub alert_message : Table → Situation → Entity
alert_message table one =
    record { id = alert_id one.number; deleted = false; trip_update = None; alert = Some (alert table one) }

-- how many bytes the body of an entity has: what is written of it without its tag and its length in the feed
abbrev pub entity_body_len : Entity → ℕ
entity_body_len entity = length (feed_entity entity)

-- bytes are those of an entity as a field of its feed
abbrev pub IsOfEntity : List ℕ → Type 0
IsOfEntity bytes = (entity : Entity) × (bytes ≡ written entity)
