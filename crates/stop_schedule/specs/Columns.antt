-- The names of columns (GTFS Schedule reference, field definitions).
use Rattle.std.specs.Prelude.{ℕ, List, codes}
use Rattle.stop_schedule.specs.declared.column.Column.{Column}
use Rattle.stop_schedule.specs.declared.column.Column.TheVariants.{AgencyTimezone, StopId, ParentStation, RouteId, TripId, ServiceId, Monday, Tuesday, Wednesday, Thursday, Friday, Saturday, Sunday, StartDate, EndDate, Date, ExceptionType, StopSequence, ArrivalTime, DepartureTime}

-- the name of a column in the first row of its file
abbrev pub column_name : Column → List ℕ
column_name AgencyTimezone = codes "agency_timezone"
column_name StopId = codes "stop_id"
column_name ParentStation = codes "parent_station"
column_name RouteId = codes "route_id"
column_name TripId = codes "trip_id"
column_name ServiceId = codes "service_id"
column_name Monday = codes "monday"
column_name Tuesday = codes "tuesday"
column_name Wednesday = codes "wednesday"
column_name Thursday = codes "thursday"
column_name Friday = codes "friday"
column_name Saturday = codes "saturday"
column_name Sunday = codes "sunday"
column_name StartDate = codes "start_date"
column_name EndDate = codes "end_date"
column_name Date = codes "date"
column_name ExceptionType = codes "exception_type"
column_name StopSequence = codes "stop_sequence"
column_name ArrivalTime = codes "arrival_time"
column_name DepartureTime = codes "departure_time"
