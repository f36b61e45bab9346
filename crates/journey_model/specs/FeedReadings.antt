-- What a feed says of journeys (GTFS Realtime reference, FeedEntity, TripUpdate, TripDescriptor).
use Rattle.std.specs.Prelude.{◌&&◌, ◌||◌, ◌==◌, ◌+◌, ℕ, ℤ, pos, ◌-ℤ◌, Bool, List, [], ◌∷◌, length, map, position, replicate, Option, Some, None, is_none, option_map, option_and_then, Result, Ok, Err, if◌then◌else◌}
use Rattle.std.specs.List.{filter_map}
use Rattle.std.specs.Option.{option_or}
use Rattle.std.specs.Ordering.{int_eq}
use Rattle.std.specs.Result.{result_err}
use Rattle.std.specs.Str.{bytes_eq}
use Rattle.gw_base.specs.Enums.{differential, trip_canceled, trip_scheduled}
use Rattle.gw_base.specs.declared.messages.Entity.{Entity}
use Rattle.gw_base.specs.declared.messages.Feed.{Feed}
use Rattle.gw_base.specs.declared.messages.TripUpdate.{TripUpdate}
use Rattle.service_day.specs.DayTexts.{day_of}
use Rattle.service_day.specs.Starts.{local_day}
use Rattle.service_day.specs.Utc.{moment_if}
use Rattle.service_day.specs.declared.days.DayForm.TheVariants.{Compact}
use Rattle.journey_model.specs.Propagation.{propagated}
use Rattle.journey_model.specs.Reports.{aside_from}
use Rattle.journey_model.specs.Runs.{Run}
use Rattle.journey_model.specs.Schedules.{Schedule, run_on}
use Rattle.journey_model.specs.Names.{filled_text}
use Rattle.journey_model.specs.Updates.{places}
use Rattle.journey_model.specs.declared.fault.Fault.{Fault}
use Rattle.journey_model.specs.declared.fault.Fault.TheVariants.{UnknownJourney, OutOfWindow, NotRunning, NoDate, OtherRelation}
use Rattle.journey_model.specs.declared.readings.DatedReading.{DatedReading}
use Rattle.journey_model.specs.declared.readings.JourneyReading.{JourneyReading}
use Rattle.journey_model.specs.declared.readings.JourneyReading.TheVariants.{Cancelled, Stops}
use Rattle.journey_model.specs.declared.readings.StopReading.TheVariants.{Absent}

-- a feed that says only what has changed (GTFS Realtime reference, FeedHeader, incrementality DIFFERENTIAL)
abbrev pub is_differential : Feed → Bool
is_differential feed = int_eq feed.incrementality differential

-- a timestamp, where it is a moment
abbrev pub moment_in : Option ℕ → Option ℤ
moment_in timestamp = option_and_then (λ secs. moment_if (pos secs)) timestamp

-- when an update was recorded: its own timestamp, else the feed's
abbrev pub recorded_in : Feed → TripUpdate → Option ℤ
recorded_in feed update = option_or (moment_in update.timestamp) (moment_in feed.timestamp)

-- the trip that an update names
abbrev pub trip_named : Schedule → TripUpdate → Option ℕ
trip_named schedule update =
    option_and_then (λ id. position (bytes_eq id) schedule.table.trips) (filled_text update.trip.trip_id)

-- a day on which a trip runs: a local date, else the day before it
abbrev pub running_day : Schedule → ℕ → ℤ → Option ℤ
running_day schedule trip day =
    if schedule.table.runs trip day then Some day
    else (if schedule.table.runs trip (day -ℤ pos 1) then Some (day -ℤ pos 1) else None)

-- the day of an update: the one that its start_date names; without a start_date the local date of the feed's
-- timestamp, or the day before, on which the trip runs
abbrev pub day_by : Schedule → ℕ → Option ℤ → Option (List ℕ) → Option ℤ
day_by schedule trip made (Some date) = day_of Compact date
day_by schedule trip made None = option_and_then (λ secs. running_day schedule trip (local_day schedule.zone secs)) made

abbrev pub day_named : Schedule → Feed → ℕ → TripUpdate → Option ℤ
day_named schedule feed trip update =
    day_by schedule trip (moment_in feed.timestamp) (filled_text update.trip.start_date)

-- CANCELED, or SCHEDULED
abbrev pub is_cancelled : TripUpdate → Bool
is_cancelled update = int_eq update.trip.relation trip_canceled

abbrev pub is_scheduled : TripUpdate → Bool
is_scheduled update = int_eq update.trip.relation trip_scheduled

-- what updates say of a trip on a day, or their first fault
abbrev pub stops_said : Run → TripUpdate → Result (List ℕ) Fault → Result JourneyReading Fault
stops_said run update (Err fault) = Err fault
stops_said run update (Ok at) = Ok (Stops (propagated run at update.updates))

-- what an update says of its trip on a day. Under CANCELED its list isn't read
abbrev pub reading_said : Run → TripUpdate → Result JourneyReading Fault
reading_said run update =
    if is_cancelled update then Ok Cancelled else
    (if is_scheduled update then stops_said run update (places run update.updates)
    else Err (OtherRelation update.trip.relation))

abbrev pub with_reading : ℕ → ℤ → Option ℤ → Result JourneyReading Fault → Result DatedReading Fault
with_reading trip day recorded (Err fault) = Err fault
with_reading trip day recorded (Ok reading) =
    Ok (record { trip = record { 0 = trip }; day = day; recorded = recorded; reading = reading })

-- the day is in the window, the trip runs on it, and then what the update says
abbrev pub said_on : Schedule → Feed → TripUpdate → ℕ → ℤ → Option Run → Result DatedReading Fault
said_on schedule feed update trip day None = Err OutOfWindow
said_on schedule feed update trip day (Some run) =
    if schedule.table.runs trip day
    then with_reading trip day (recorded_in feed update) (reading_said run update)
    else Err NotRunning

abbrev pub said_of_day : Schedule → Feed → TripUpdate → ℕ → Option ℤ → Result DatedReading Fault
said_of_day schedule feed update trip None = Err NoDate
said_of_day schedule feed update trip (Some day) = said_on schedule feed update trip day (run_on schedule trip day)

abbrev pub said_of_trip : Schedule → Feed → TripUpdate → Option ℕ → Result DatedReading Fault
said_of_trip schedule feed update None = Err UnknownJourney
said_of_trip schedule feed update (Some trip) =
    said_of_day schedule feed update trip (day_named schedule feed trip update)

-- what a trip update says, or the first fault for which it is set aside
abbrev pub update_said : Schedule → Feed → TripUpdate → Result DatedReading Fault
update_said schedule feed update =
    if is_scheduled update || is_cancelled update
    then said_of_trip schedule feed update (trip_named schedule update)
    else Err (OtherRelation update.trip.relation)

-- what an entity says: nothing where it is to be deleted or has no trip update, and is then passed
abbrev pub entity_said : Schedule → Feed → Entity → Option (Result DatedReading Fault)
entity_said schedule feed entity =
    if entity.deleted then None else option_map (update_said schedule feed) entity.trip_update

-- what the entities of a feed say, in order
abbrev pub readings : Schedule → Feed → List (Option (Result DatedReading Fault))
readings schedule feed = map (entity_said schedule feed) feed.entities

-- of what entities say, what was read, what was passed, and what was set aside, each with the number of its entity
abbrev pub given : {A : Type 0} → Option (Result A Fault) → Option A
given None = None
given (Some (Err fault)) = None
given (Some (Ok one)) = Some one

abbrev pub given_all : {A : Type 0} → List (Option (Result A Fault)) → List A
given_all said = filter_map given said

abbrev pub passed_count : {A : Type 0} → List (Option (Result A Fault)) → ℕ
passed_count [] = 0
passed_count (None ∷ said) = passed_count said + 1
passed_count (Some one ∷ said) = passed_count said

-- why what an entity says is set aside, where it is
abbrev pub fault_said : {A : Type 0} → Option (Result A Fault) → Option Fault
fault_said said = option_and_then result_err said

abbrev pub aside_all : {A : Type 0} → List (Option (Result A Fault)) → List (ℕ × Fault)
aside_all said = aside_from 0 (map fault_said said)

-- the last reading of a trip on a day
abbrev pub is_of : ℕ → ℤ → DatedReading → Bool
is_of trip day one = (one.trip.0 == trip) && int_eq one.day day

abbrev pub last_reading : ℕ → ℤ → List DatedReading → Option JourneyReading
last_reading trip day [] = None
last_reading trip day (one ∷ others) =
    option_or (last_reading trip day others) (if is_of trip day one then Some one.reading else None)

-- of the readings of one journey the last one: after it there is none of its trip on its day
abbrev pub is_last : DatedReading → List DatedReading → Bool
is_last one others = is_none (last_reading one.trip.0 one.day others)

abbrev pub last_of_each : List DatedReading → List DatedReading
last_of_each [] = []
last_of_each (one ∷ others) = if is_last one others then one ∷ last_of_each others else last_of_each others

-- nothing is known of any stop of a trip
abbrev pub nothing_known : Schedule → ℕ → JourneyReading
nothing_known schedule trip = Stops (replicate (length (schedule.table.stops_of trip)) Absent)

abbrev pub or_nothing : Option JourneyReading → JourneyReading → JourneyReading
or_nothing None nothing = nothing
or_nothing (Some reading) nothing = reading

-- how a feed reads a trip on a day: by the last entity that gives it, and else as nothing known
abbrev pub reads : Schedule → Feed → ℕ → ℤ → JourneyReading
reads schedule feed trip day =
    or_nothing (last_reading trip day (given_all (readings schedule feed))) (nothing_known schedule trip)
