-- The places of the columns in a data row, by the name of the file and of the column: they are counted from 0, in the
-- order of `columns` in Layout.antt (GTFS Schedule reference, each file's page).
use Rattle.std.specs.Prelude.{ℕ}

-- the id by which a row of stops.txt, routes.txt, trips.txt or calendar.txt is told from the others of its file
abbrev pub own_id : ℕ
own_id = 0

-- stops.txt
abbrev pub stops_parent_station : ℕ
stops_parent_station = 1

-- agency.txt
abbrev pub agency_timezone : ℕ
agency_timezone = 0

-- trips.txt
abbrev pub trips_trip_id : ℕ
trips_trip_id = 0

abbrev pub trips_route_id : ℕ
trips_route_id = 1

abbrev pub trips_service_id : ℕ
trips_service_id = 2

-- calendar.txt
abbrev pub calendar_service_id : ℕ
calendar_service_id = 0

abbrev pub calendar_monday : ℕ
calendar_monday = 1

abbrev pub calendar_tuesday : ℕ
calendar_tuesday = 2

abbrev pub calendar_wednesday : ℕ
calendar_wednesday = 3

abbrev pub calendar_thursday : ℕ
calendar_thursday = 4

abbrev pub calendar_friday : ℕ
calendar_friday = 5

abbrev pub calendar_saturday : ℕ
calendar_saturday = 6

abbrev pub calendar_sunday : ℕ
calendar_sunday = 7

abbrev pub calendar_start_date : ℕ
calendar_start_date = 8

abbrev pub calendar_end_date : ℕ
calendar_end_date = 9

-- calendar_dates.txt
abbrev pub dates_service_id : ℕ
dates_service_id = 0

abbrev pub dates_date : ℕ
dates_date = 1

abbrev pub dates_exception_type : ℕ
dates_exception_type = 2

-- frequencies.txt
abbrev pub frequencies_trip_id : ℕ
frequencies_trip_id = 0

-- stop_times.txt
abbrev pub stop_times_trip_id : ℕ
stop_times_trip_id = 0

abbrev pub stop_times_stop_sequence : ℕ
stop_times_stop_sequence = 1

abbrev pub stop_times_stop_id : ℕ
stop_times_stop_id = 2

abbrev pub stop_times_arrival_time : ℕ
stop_times_arrival_time = 3

abbrev pub stop_times_departure_time : ℕ
stop_times_departure_time = 4
