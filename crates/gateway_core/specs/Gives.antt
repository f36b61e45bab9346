-- What a feed gives, in the words of the two standards (SIRI 2.0, EstimatedVehicleJourney; GTFS Realtime 2.0,
-- FeedMessage).
use Rattle.std.specs.Prelude.{◌≡◌, ℕ, ℤ, Bool, List, [], Option, Some, Ok, filter, is_none, is_some, map, not, option_map}
use Rattle.std.specs.List.{AllByRecursion}
use Rattle.gw_base.specs.declared.messages.Entity.{Entity}
use Rattle.gw_base.specs.declared.messages.Feed.{Feed}
use Rattle.gw_base.specs.declared.messages.TripUpdate.{TripUpdate}
use Rattle.feed_reading.specs.declared.fault.FeedFault.{FeedFault}
use Rattle.feed_reading.specs.Faults.{HasFault}
use Rattle.feed_reading.specs.Tables.{MeansFeed, full_dataset}
use Rattle.journey_model.specs.FeedReadings.{aside_all, entity_said, given_all, nothing_known, or_nothing, readings, reads}
use Rattle.journey_model.specs.Records.{Recorded}
use Rattle.journey_model.specs.Schedules.{Schedule, run_on}
use Rattle.journey_model.specs.Runs.{Run}
use Rattle.journey_model.specs.declared.readings.DatedReading.{DatedReading}
use Rattle.sparse_planner.specs.Means.{IsLeastOf}
use Rattle.latest_store.specs.Entities.{is_silent}
use Rattle.latest_store.specs.Latest.{HasLatest, was_later}
use Rattle.latest_store.specs.Reads.{dated_reading}
use Rattle.gateway_core.specs.Feeds.{comes_before}
use Rattle.gateway_core.specs.Keeping.{AreLatest}
use Rattle.gateway_core.specs.Winners.{has_key}

-- a feed of these entities gives a trip on a day just the reading of the latest record of that journey, or nothing
-- known of any stop where there is none
abbrev pub GivesLatest : Schedule → ℤ → List Entity → List Recorded → ℕ → ℤ → Type 0
GivesLatest schedule at entities records trip day =
    (found : Option Recorded) → HasLatest records trip day found
    → reads schedule (full_dataset at entities) trip day
    ≡ or_nothing (option_map (λ one. one.reading) found) (nothing_known schedule trip)

-- a record says something of its journey: not that nothing is known of any stop
abbrev pub says_something : Recorded → Bool
says_something one = not (is_silent one.reading)

-- what a feed says of journeys is, by service day and then trip number, the latest record of each journey that says
-- something: its reading, and the second in which it was recorded
pub record SaysLatest (schedule : Schedule) (records : List Recorded) (feed : Feed) : Type 0 where
  pub latest : List Recorded
  pub are_latest : AreLatest has_key was_later comes_before records latest
  pub given : given_all (readings schedule feed) ≡ map dated_reading (filter says_something latest)

-- what an entity of a feed says of a trip on a day, it says with the least updates: each list that says the same of it
-- has an update at every position at which these have one
abbrev pub SaysLeast : Schedule → Feed → Entity → Type 0
SaysLeast schedule feed entity =
    (update : TripUpdate) (one : DatedReading) (run : Run) → entity.trip_update ≡ Some update
    → entity_said schedule feed entity ≡ Some (Ok one) → run_on schedule one.trip.0 one.day ≡ Some run
    → IsLeastOf run update.updates one.reading

-- an entity is that of an alert
abbrev pub is_alert : Entity → Bool
is_alert entity = is_some entity.alert

-- bytes mean a full dataset, made at that moment, and have no fault; it gives each trip on each day just this, with the
-- second of each record and the least updates; nothing of it is set aside, and the entities that are passed over are
-- just its alerts
pub record GivesEach (at : ℤ) (schedule : Schedule) (records : List Recorded) (feed : List ℕ) : Type 0 where
  pub entities : List Entity
  pub means : MeansFeed feed (full_dataset at entities)
  pub faultless : (fault : FeedFault) → ¬ HasFault feed fault
  pub gives : (trip : ℕ) (day : ℤ) → GivesLatest schedule at entities records trip day
  pub says : SaysLatest schedule records (full_dataset at entities)
  pub least : AllByRecursion (SaysLeast schedule (full_dataset at entities)) entities
  pub aside : aside_all (readings schedule (full_dataset at entities)) ≡ []
  pub passed : map is_none (readings schedule (full_dataset at entities)) ≡ map is_alert entities
