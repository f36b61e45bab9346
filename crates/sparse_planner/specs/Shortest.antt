-- The shortest list of updates that says how the stops of a trip read (GTFS Realtime reference, StopTimeUpdate).
use Rattle.std.specs.Prelude.{◌==◌, ◌||◌, ◌&&◌, ℕ, ℤ, ◌-ℤ◌, Bool, true, false, not, List, [], ◌∷◌, ◌++◌, Option, Some, None, if◌then◌else◌}
use Rattle.std.specs.List.{zip}
use Rattle.std.specs.Option.{option_or}
use Rattle.std.specs.Ordering.{int_eq}
use Rattle.gw_base.specs.Enums.{stop_no_data, stop_scheduled, stop_skipped}
use Rattle.gw_base.specs.declared.messages.Event.{Event}
use Rattle.gw_base.specs.declared.messages.StopUpdate.{StopUpdate}
use Rattle.timetable.specs.Planned.{planned}
use Rattle.timetable.specs.declared.numbers.StopNo.{StopNo}
use Rattle.timetable.specs.declared.stop_row.StopRow.{StopRow}
use Rattle.journey_model.specs.Ids.{id_of}
use Rattle.journey_model.specs.Propagation.{later_by}
use Rattle.journey_model.specs.Runs.{Run}
use Rattle.journey_model.specs.declared.readings.JourneyReading.{JourneyReading}
use Rattle.journey_model.specs.declared.readings.JourneyReading.TheVariants.{Cancelled, Stops}
use Rattle.journey_model.specs.declared.readings.StopReading.{StopReading}
use Rattle.journey_model.specs.declared.readings.StopReading.TheVariants.{Absent, Skipped, Timed}
use Rattle.journey_model.specs.Readings.{is_skipped}

-- two readings say the same: a stop that is served has equal times and the same place
abbrev pub same_reading : StopReading → StopReading → Bool
same_reading Absent Absent = true
same_reading Skipped Skipped = true
same_reading (Timed arrival departure place) (Timed other_arrival other_departure other_place) =
    int_eq arrival other_arrival && (int_eq departure other_departure && place.0 == other_place.0)
same_reading Absent Skipped = false
same_reading Absent (Timed arrival departure place) = false
same_reading Skipped Absent = false
same_reading Skipped (Timed arrival departure place) = false
same_reading (Timed arrival departure place) Absent = false
same_reading (Timed arrival departure place) Skipped = false

-- the nearest of earlier stops that isn't skipped, with its reading
abbrev pub nearest : List (StopRow × StopReading) → Option (StopRow × StopReading)
nearest [] = None
nearest (stop ∷ stops) = option_or (nearest stops) (if is_skipped stop.1 then None else Some stop)

-- what a stop supplies to one after it on a day that starts at that second: nothing where it is absent, else the
-- planned times with the delay of its departure, at the scheduled stop
abbrev pub supplied_by : ℤ → StopRow → StopRow → StopReading → StopReading
supplied_by start row earlier Absent = Absent
supplied_by start row earlier Skipped = Absent
supplied_by start row earlier (Timed arrival departure place) =
    later_by row.stop (planned start row) (departure -ℤ (planned start earlier).1)

-- what the stops before a stop supply to it
abbrev pub supply : ℤ → StopRow → Option (StopRow × StopReading) → StopReading
supply start row None = Absent
supply start row (Some earlier) = supplied_by start row earlier.0 earlier.1

-- a stop needs an update of its own where it is skipped, or reads otherwise than the stops before supply
abbrev pub needs_update : ℤ → List (StopRow × StopReading) → StopRow × StopReading → Bool
needs_update start before stop = is_skipped stop.1 || not (same_reading stop.1 (supply start stop.0 (nearest before)))

-- an event with its delay and its time
abbrev pub event : ℤ → ℤ → Option Event
event planned time = Some (record { delay = Some (time -ℤ planned); time = Some time })

-- the id of the stop to which an update is assigned: that of its place, where it isn't the scheduled stop (GTFS
-- Realtime reference, StopTimeProperties: assigned_stop_id)
abbrev pub assigned : List (List ℕ) → StopRow → StopNo → Option (List ℕ)
assigned ids row place = if place.0 == row.stop.0 then None else Some (id_of ids place.0)

-- an update without times
abbrev pub untimed : StopRow → ℤ → StopUpdate
untimed row relation = record {
  sequence = Some row.sequence;
  arrival = None;
  departure = None;
  stop_id = None;
  relation = relation;
  assigned = None;
}

-- the update of a stop: SKIPPED, NO_DATA where it is absent, or both events and the stop to which it is assigned
abbrev pub update : Run → StopRow → StopReading → StopUpdate
update run row Absent = untimed row stop_no_data
update run row Skipped = untimed row stop_skipped
update run row (Timed arrival departure place) = record {
  sequence = Some row.sequence;
  arrival = event (planned run.start row).0 arrival;
  departure = event (planned run.start row).1 departure;
  stop_id = None;
  relation = stop_scheduled;
  assigned = assigned run.ids row place;
}

-- the updates of stops that stand after others
abbrev pub updates_from : Run → List (StopRow × StopReading) → List (StopRow × StopReading) → List StopUpdate
updates_from run before [] = []
updates_from run before (stop ∷ stops) =
    (if needs_update run.start before stop then update run stop.0 stop.1 ∷ [] else [])
    ++ updates_from run (before ++ stop ∷ []) stops

-- the shortest list for a journey that reads so over a run; none for a cancelled one
abbrev pub shortest : Run → JourneyReading → List StopUpdate
shortest run Cancelled = []
shortest run (Stops readings) = updates_from run [] (zip run.stops readings)
