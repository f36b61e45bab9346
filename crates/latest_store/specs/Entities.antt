-- The entity of a record (GTFS Realtime reference, FeedEntity, TripUpdate, TripDescriptor).
use Rattle.std.specs.Prelude.{ℕ, ℤ, Bool, false, List, [], ◌∷◌, ◌++◌, codes, unsigned_abs, Option, Some, None, if◌then◌else◌}
use Rattle.std.specs.List.{flat_map, list_all}
use Rattle.gw_base.specs.Enums.{trip_canceled, trip_scheduled}
use Rattle.gw_base.specs.declared.messages.Entity.{Entity}
use Rattle.gw_base.specs.declared.messages.TripDescriptor.{TripDescriptor}
use Rattle.service_day.specs.DayTexts.{compact_text}
use Rattle.feed_writing.specs.Written.{written}
use Rattle.sparse_planner.specs.Shortest.{shortest}
use Rattle.journey_model.specs.Ids.{id_of}
use Rattle.journey_model.specs.Records.{Recorded}
use Rattle.journey_model.specs.Runs.{Run}
use Rattle.journey_model.specs.Schedules.{Schedule, run_on}
use Rattle.journey_model.specs.declared.readings.JourneyReading.{JourneyReading}
use Rattle.journey_model.specs.declared.readings.JourneyReading.TheVariants.{Cancelled, Stops}
use Rattle.journey_model.specs.Readings.{is_absent}

-- the id of a journey's entity: the service day and the trip, joined by a colon
abbrev pub journey_id : List ℕ → List ℕ → List ℕ
journey_id date trip_id = date ++ codes ":" ++ trip_id

-- the schedule_relationship of a journey: CANCELED, or SCHEDULED
abbrev pub relation_of : JourneyReading → ℤ
relation_of Cancelled = trip_canceled
relation_of (Stops readings) = trip_scheduled

-- the trip on that day
abbrev pub descriptor : List ℕ → List ℕ → JourneyReading → TripDescriptor
descriptor date trip_id reading =
    record { trip_id = Some trip_id; start_date = Some date; relation = relation_of reading; route_id = None }

-- what its entity says: the trip on its day, the shortest updates of its reading, and the second of recording
abbrev pub message : List ℕ → Run → Recorded → Entity
message trip_id run one = record {
  id = journey_id (compact_text one.day) trip_id;
  deleted = false;
  trip_update = Some (record {
    trip = descriptor (compact_text one.day) trip_id one.reading;
    updates = shortest run one.reading;
    timestamp = Some (unsigned_abs one.at.0);
  });
  alert = None;
}

-- nothing is known of any stop of a journey: it has no entity. A cancelled journey has one even where it has no stops
abbrev pub is_silent : JourneyReading → Bool
is_silent Cancelled = false
is_silent (Stops readings) = list_all is_absent readings

-- the messages of a record over a schedule: one, or none where nothing is known or its day isn't in the window
abbrev pub messages_on : Schedule → Recorded → Option Run → List Entity
messages_on schedule one None = []
messages_on schedule one (Some run) =
    if is_silent one.reading then [] else message (id_of schedule.table.trips one.trip) run one ∷ []

abbrev pub messages : Schedule → Recorded → List Entity
messages schedule one = messages_on schedule one (run_on schedule one.trip one.day)

-- the entity of a record: its bytes in a feed, none where nothing is known
abbrev pub entity : Schedule → Recorded → List ℕ
entity schedule one = flat_map written (messages schedule one)
