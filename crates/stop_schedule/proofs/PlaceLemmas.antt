-- Each name of a place in a row is that of its column, in the order in which the columns of its file are read.
use Rattle.std.proofs.Common.{◌≡◌, ℕ, refl, Some}
use Rattle.std.specs.Prelude.{option_map, slice_get}
use Rattle.stop_schedule.specs.Layout.{columns}
use Rattle.stop_schedule.specs.Places as places
use Rattle.stop_schedule.specs.declared.column.Column.{Column}
use Rattle.stop_schedule.specs.declared.column.Column.TheVariants as named
use Rattle.stop_schedule.specs.declared.table_file.TableFile.{TableFile}
use Rattle.stop_schedule.specs.declared.table_file.TableFile.TheVariants.{Agency, Stops, Routes, Trips, Calendar, CalendarDates, Frequencies, StopTimes}

-- the column at a place stands there
abbrev Has : TableFile → ℕ → Column → Type 0
Has file place column = option_map (λ read. read.0) (slice_get (columns file) place) ≡ Some column

agency : Has Agency places.agency_timezone named.AgencyTimezone
agency = refl

ids : Has Stops places.own_id named.StopId × Has Routes places.own_id named.RouteId
    × Has Trips places.own_id named.TripId × Has Calendar places.own_id named.ServiceId
ids = (refl, refl, refl, refl)

trips : Has Trips places.trips_trip_id named.TripId × Has Trips places.trips_route_id named.RouteId
    × Has Trips places.trips_service_id named.ServiceId
trips = (refl, refl, refl)

calendar : Has Calendar places.calendar_service_id named.ServiceId × Has Calendar places.calendar_monday named.Monday
    × Has Calendar places.calendar_tuesday named.Tuesday × Has Calendar places.calendar_wednesday named.Wednesday
    × Has Calendar places.calendar_thursday named.Thursday × Has Calendar places.calendar_friday named.Friday
    × Has Calendar places.calendar_saturday named.Saturday × Has Calendar places.calendar_sunday named.Sunday
    × Has Calendar places.calendar_start_date named.StartDate × Has Calendar places.calendar_end_date named.EndDate
calendar = (refl, refl, refl, refl, refl, refl, refl, refl, refl, refl)

dates : Has CalendarDates places.dates_service_id named.ServiceId × Has CalendarDates places.dates_date named.Date
    × Has CalendarDates places.dates_exception_type named.ExceptionType
dates = (refl, refl, refl)

frequencies : Has Frequencies places.frequencies_trip_id named.TripId
frequencies = refl

stop_times : Has StopTimes places.stop_times_trip_id named.TripId
    × Has StopTimes places.stop_times_stop_sequence named.StopSequence
    × Has StopTimes places.stop_times_stop_id named.StopId
    × Has StopTimes places.stop_times_arrival_time named.ArrivalTime
    × Has StopTimes places.stop_times_departure_time named.DepartureTime
stop_times = (refl, refl, refl, refl, refl)
