-- The faults of a row beyond those of its fields, by the rows before it in its file and by the ids of other files.
use Rattle.std.specs.Prelude.{◌==◌, ◌&&◌, ◌+◌, ℕ, Bool, false, not, nat_le, List, [], ◌∷◌, map, length, filter, Option, Some, None}
use Rattle.std.specs.List.{list_any}
use Rattle.std.specs.Option.{option_or}
use Rattle.std.specs.Str.{bytes_eq}
use Rattle.stop_schedule.specs.Faults.{fault_if}
use Rattle.timetable.specs.Ids.{has_id}
use Rattle.timetable.specs.Limits.{stop_limit}
use Rattle.stop_schedule.specs.Places.{own_id, agency_timezone, stops_parent_station, trips_route_id, dates_service_id, frequencies_trip_id, stop_times_trip_id, stop_times_stop_id}
use Rattle.stop_schedule.specs.Services.{is_exception, day_of_row}
use Rattle.stop_schedule.specs.Sheet.{Row, nth}
use Rattle.stop_schedule.specs.Stations.{has_parent}
use Rattle.stop_schedule.specs.StopTimes.{sequence_of}
use Rattle.stop_schedule.specs.declared.column.Column.TheVariants as Column
use Rattle.stop_schedule.specs.declared.table_file.TableFile.{TableFile}
use Rattle.stop_schedule.specs.declared.table_file.TableFile.TheVariants.{Stops, Trips, Calendar, CalendarDates, Frequencies, StopTimes}
use Rattle.stop_schedule.specs.declared.table_fault.TableFault.{TableFault}
use Rattle.stop_schedule.specs.declared.table_fault.TableFault.TheVariants.{Limit, Zones, Unknown, Duplicate}

-- the number of the row after these
abbrev pub number_after : List Row → ℕ
number_after before = length before + 1

-- an id stands in no earlier row
abbrev pub duplicate_fault : TableFile → List Row → Row → Option TableFault
duplicate_fault file before row =
    fault_if (has_id (nth own_id row) (map (nth own_id) before)) (Duplicate file (number_after before))

abbrev pub first_row : List Row → Option Row
first_row [] = None
first_row (row ∷ rows) = Some row

-- stops.txt, of which these are the ids: the row names a parent that is no stop
abbrev pub is_unknown_parent : List (List ℕ) → Row → Bool
is_unknown_parent stops row = has_parent row && not (has_id (nth stops_parent_station row) stops)

abbrev pub parent_fault : List (List ℕ) → List Row → Row → Option TableFault
parent_fault stops before row =
    fault_if (is_unknown_parent stops row) (Unknown Stops (number_after before) Column.ParentStation)

-- agency.txt: the zone is the first row's
abbrev pub differs : Option Row → Row → Bool
differs None row = false
differs (Some first) row = not (bytes_eq (nth agency_timezone first) (nth agency_timezone row))

abbrev pub zone_fault : List Row → Row → Option TableFault
zone_fault before row = fault_if (differs (first_row before) row) (Zones (number_after before))

-- trips.txt, of which these are the ids of the routes
abbrev pub trip_fault : List (List ℕ) → List Row → Row → Option TableFault
trip_fault routes before row =
    option_or
    (fault_if (not (has_id (nth trips_route_id row) routes)) (Unknown Trips (number_after before) Column.RouteId))
    (duplicate_fault Trips before row)

-- calendar.txt and calendar_dates.txt
abbrev pub calendar_fault : List Row → Row → Option TableFault
calendar_fault before row = duplicate_fault Calendar before row

abbrev pub date_fault : List Row → Row → Option TableFault
date_fault before row =
    fault_if (list_any (λ other. is_exception (nth dates_service_id row) (day_of_row row) other) before)
    (Duplicate CalendarDates (number_after before))

-- frequencies.txt, of which these are the ids of the trips
abbrev pub frequency_fault : List (List ℕ) → List Row → Row → Option TableFault
frequency_fault trips before row =
    fault_if (not (has_id (nth frequencies_trip_id row) trips))
    (Unknown Frequencies (number_after before) Column.TripId)

-- the rows have the same trip
abbrev pub same_trip : Row → Row → Bool
same_trip row other = bytes_eq (nth stop_times_trip_id row) (nth stop_times_trip_id other)

-- stop_times.txt, of which these are the ids of the trips and the stops; a trip has no more rows than it has
-- stops at most
abbrev pub stop_time_fault : List (List ℕ) → List (List ℕ) → List Row → Row → Option TableFault
stop_time_fault trips stops before row =
    option_or
    (fault_if (nat_le stop_limit (length (filter (same_trip row) before))) (Limit StopTimes (number_after before)))
    (option_or
    (fault_if (not (has_id (nth stop_times_trip_id row) trips))
    (Unknown StopTimes (number_after before) Column.TripId))
    (option_or
    (fault_if (not (has_id (nth stop_times_stop_id row) stops))
    (Unknown StopTimes (number_after before) Column.StopId))
    (fault_if (list_any (λ other. same_trip row other && (sequence_of row == sequence_of other)) before)
    (Duplicate StopTimes (number_after before)))))
