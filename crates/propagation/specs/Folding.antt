-- What the entities of a feed say that come one by one, before its header is known (GTFS Realtime reference,
-- FeedMessage, whose header may come last).
use Rattle.std.specs.Prelude.{◌≡◌, ℕ, pos, Bool, List, [], length, map, Option, Some, None, is_none, is_some, option_map, Result, Ok, Err, if◌then◌else◌}
use Rattle.std.specs.List.{filter, filter_map}
use Rattle.std.specs.Option.{option_or}
use Rattle.gw_base.specs.declared.messages.Entity.{Entity}
use Rattle.gw_base.specs.declared.messages.Feed.{Feed}
use Rattle.gw_base.specs.declared.messages.FeedHead.{FeedHead}
use Rattle.gw_base.specs.declared.messages.TripUpdate.{TripUpdate}
use Rattle.journey_model.specs.FeedReadings.{aside_all, entity_said, given, given_all, last_of_each, moment_in, update_said}
use Rattle.journey_model.specs.Schedules.{Schedule}
use Rattle.journey_model.specs.Names.{filled_text}
use Rattle.journey_model.specs.declared.fault.Fault.{Fault}
use Rattle.journey_model.specs.declared.readings.DatedReading.{DatedReading}
use Rattle.propagation.specs.declared.entity_said.EntitySaid.{EntitySaid}
use Rattle.propagation.specs.declared.entity_said.EntitySaid.TheVariants.{Given, Aside, Waits, Replaced}

-- the feed of a head and of entities
abbrev pub feed_with : FeedHead → List Entity → Feed
feed_with head entities =
    record {
      version = head.version;
      incrementality = head.incrementality;
      timestamp = head.timestamp;
      entities = entities;
    }

-- a feed of that timestamp that says nothing else
abbrev pub bare_feed : Option ℕ → Feed
bare_feed timestamp = record { version = []; incrementality = pos 0; timestamp = timestamp; entities = [] }

-- the update names its service day (GTFS Realtime reference, TripDescriptor: start_date)
abbrev pub is_dated : TripUpdate → Bool
is_dated update = is_some (filled_text update.trip.start_date)

-- a reading, or the fault for which an entity is set aside
abbrev pub given_or_aside : Result DatedReading Fault → EntitySaid
given_or_aside (Ok reading) = Given reading
given_or_aside (Err fault) = Aside fault

-- what an update says before the header is known: as in a feed without a timestamp, so that a reading is recorded by
-- its own timestamp alone; but an update that names no service day waits for the header
abbrev pub update_early : Schedule → TripUpdate → EntitySaid
update_early schedule update =
    if is_dated update then given_or_aside (update_said schedule (bare_feed None) update) else Waits update

-- what an entity says then: nothing where it is to be deleted or has no trip update, and is passed
abbrev pub entity_early : Schedule → Entity → Option EntitySaid
entity_early schedule entity =
    if entity.deleted then None else option_map (update_early schedule) entity.trip_update

-- what is held of entities: how many were passed, and what the others say, each with the number of its entity, in
-- order
pub record Folded : Type 0 where
  pub passed : ℕ
  pub said : List (ℕ × EntitySaid)

-- what it says once a feed's header is known: a reading without a moment of its own is recorded by the header's
-- timestamp, and what waited is read; a reading in whose place a later one stands says nothing any more
abbrev pub late_said : Schedule → Feed → EntitySaid → Option (Result DatedReading Fault)
late_said schedule feed (Aside fault) = Some (Err fault)
late_said schedule feed (Waits update) = Some (update_said schedule feed update)
late_said schedule feed Replaced = None
late_said schedule feed (Given reading) =
    Some (Ok (record {
      trip = reading.trip;
      day = reading.day;
      recorded = option_or reading.recorded (moment_in feed.timestamp);
      reading = reading.reading;
    }))

-- the reading that it gives then
abbrev pub given_late : Schedule → Feed → ℕ × EntitySaid → Option DatedReading
given_late schedule feed one = given (late_said schedule feed one.1)

-- the fault for which it is set aside then, with its number
abbrev pub aside_as : ℕ → Option (Result DatedReading Fault) → Option (ℕ × Fault)
aside_as number None = None
aside_as number (Some (Ok reading)) = None
aside_as number (Some (Err fault)) = Some (number, fault)

abbrev pub aside_late : Schedule → Feed → ℕ × EntitySaid → Option (ℕ × Fault)
aside_late schedule feed one = aside_as one.0 (late_said schedule feed one.1)

-- how many are taken then: all that aren't set aside, also a reading in whose place a later one stands
abbrev pub is_taken_late : Schedule → Feed → ℕ × EntitySaid → Bool
is_taken_late schedule feed one = is_none (aside_late schedule feed one)

abbrev pub taken_late : Schedule → Feed → List (ℕ × EntitySaid) → ℕ
taken_late schedule feed held = length (filter (is_taken_late schedule feed) held)

-- what is held gives then what the entities say: how many are taken, of the readings of one journey the last, and
-- which entities are set aside
pub record GivesLate (schedule : Schedule) (feed : Feed) (held : List (ℕ × EntitySaid))
    (said : List (Option (Result DatedReading Fault))) : Type 0 where
  pub taken : taken_late schedule feed held ≡ length (given_all said)
  pub last : last_of_each (filter_map (given_late schedule feed) held) ≡ last_of_each (given_all said)
  pub aside : filter_map (aside_late schedule feed) held ≡ aside_all said

-- how many of these entities are passed
abbrev pub passed_early : Schedule → List Entity → ℕ
passed_early schedule entities = length (filter is_none (map (entity_early schedule) entities))

-- a fold stands for these entities over this schedule: it counts those that are passed, and gives what the others say,
-- whatever the header's timestamp is
pub record StandsFor (schedule : Schedule) (fold : Folded) (entities : List Entity) : Type 0 where
  pub passed : fold.passed ≡ passed_early schedule entities
  pub late : (timestamp : Option ℕ)
      → GivesLate schedule (bare_feed timestamp) fold.said (map (entity_said schedule (bare_feed timestamp)) entities)
