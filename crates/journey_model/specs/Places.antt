-- The stops at which a vehicle calls in place of the scheduled ones, as another platform of the same station (GTFS
-- Schedule reference, stops.txt: parent_station; GTFS Realtime reference, StopTimeProperties: assigned_stop_id).
use Rattle.std.specs.Prelude.{◌==◌, ◌&&◌, ◌+◌, ℕ, Bool, true, nat_le, nat_lt, List, [], ◌∷◌, length, Option, Some, None, if◌then◌else◌}
use Rattle.timetable.specs.declared.stop_row.StopRow.{StopRow}
use Rattle.journey_model.specs.Ids.{id_of}
use Rattle.journey_model.specs.Runs.{Run}
use Rattle.journey_model.specs.declared.fault.Fault.{Fault}
use Rattle.journey_model.specs.declared.fault.Fault.TheVariants.{PlacesTooLong}
use Rattle.journey_model.specs.declared.readings.StopReading.{StopReading}
use Rattle.journey_model.specs.declared.readings.StopReading.TheVariants.{Absent, Skipped, Timed}

-- two stops are of one station
abbrev pub are_of_station : (ℕ → ℕ) → ℕ → ℕ → Bool
are_of_station station_of stop other = station_of stop == station_of other

-- the bytes of the id of a place that isn't the scheduled stop
abbrev pub place_size : List (List ℕ) → ℕ → ℕ → ℕ
place_size ids scheduled place = if place == scheduled then 0 else length (id_of ids place)

-- of one journey the ids of such places have at most so many bytes in sum
abbrev pub places_limit : ℕ
places_limit = 4096

-- the fault of a journey whose ids of such places have so many bytes in sum
abbrev pub places_fault : ℕ → Option Fault
places_fault bytes = if nat_le bytes places_limit then None else Some (PlacesTooLong bytes)

-- the bytes of the id of a stop's place, where the vehicle calls at another than the scheduled one
abbrev pub reading_size : List (List ℕ) → StopRow → StopReading → ℕ
reading_size ids row Absent = 0
reading_size ids row Skipped = 0
reading_size ids row (Timed arrival departure place) = place_size ids row.stop.0 place.0

-- the sum of these bytes over stops with their readings
abbrev pub readings_size : List (List ℕ) → List StopRow → List StopReading → ℕ
readings_size ids [] readings = 0
readings_size ids (row ∷ rows) [] = 0
readings_size ids (row ∷ rows) (reading ∷ readings) = reading_size ids row reading + readings_size ids rows readings

-- the place of a stop is there, and is of the stop's station
abbrev pub is_placed : Run → StopRow → StopReading → Bool
is_placed run row Absent = true
is_placed run row Skipped = true
is_placed run row (Timed arrival departure place) =
    nat_lt place.0 (length run.ids) && are_of_station run.station_of place.0 row.stop.0

-- so are the places of all stops
abbrev pub are_placed : Run → List StopRow → List StopReading → Bool
are_placed run [] readings = true
are_placed run (row ∷ rows) [] = true
are_placed run (row ∷ rows) (reading ∷ readings) = is_placed run row reading && are_placed run rows readings

-- and their ids aren't too long in sum
abbrev pub keeps_places : Run → List StopReading → Bool
keeps_places run readings =
    are_placed run run.stops readings && nat_le (readings_size run.ids run.stops readings) places_limit
