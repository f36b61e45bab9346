-- What is held of the rows of a file while they are read.
use Rattle.std.specs.Prelude.{◌≡◌, ◌≤◌, ℕ, ℤ, true, List, map, length, slice_get, Some, None}
use Rattle.std.specs.List.{list_all}
use Rattle.timetable.specs.Services.{Calendars, Exceptions, calendar_at, exception_at}
use Rattle.stop_schedule.specs.Faults.{Fits}
use Rattle.timetable.specs.Ids.{are_ids, has_id}
use Rattle.stop_schedule.specs.Places.{own_id, trips_trip_id, trips_route_id, trips_service_id, calendar_service_id, dates_service_id, stop_times_trip_id, stop_times_stop_id}
use Rattle.stop_schedule.specs.Rising.{is_rising}
use Rattle.stop_schedule.specs.Services.{calendar_in, exception_in}
use Rattle.stop_schedule.specs.Sheet.{Row, nth}
use Rattle.stop_schedule.specs.Stations.{station_in}
use Rattle.stop_schedule.specs.StopTimes.{loaded, stops_in}
use Rattle.timetable.specs.Held.{station_held}
use Rattle.timetable.specs.declared.numbers.StopNo.{StopNo}
use Rattle.stop_schedule.specs.declared.stop_times.LoadedStop.{LoadedStop}
use Rattle.stop_schedule.specs.declared.table_file.TableFile.TheVariants.{StopTimes}

-- the station of each stop is the one that the rows give it
abbrev pub HoldsStations : List (List ℕ) → List StopNo → List Row → Type 0
HoldsStations stops stations rows =
    (stop : ℕ) → station_held stations stop ≡ station_in stops (slice_get rows stop) stop

-- the ids of the stops, and their stations
pub record HoldsStopNames (stops : List (List ℕ)) (stations : List StopNo) (rows : List Row) : Type 0 where
  pub ids : stops ≡ map (nth own_id) rows
  pub stations_are : HoldsStations (map (nth own_id) rows) stations rows

-- these are the numbers of names among ids
abbrev pub AreNumbers : List (List ℕ) → List ℕ → List (List ℕ) → Type 0
AreNumbers ids numbers names = map (slice_get ids) numbers ≡ map Some names

-- the trips of the rows, with the numbers of their routes and services
pub record HoldsTrips (routes services trips : List (List ℕ)) (trip_routes trip_services : List ℕ)
    (rows : List Row) : Type 0 where
  pub ids : trips ≡ map (nth trips_trip_id) rows
  pub routes_are : AreNumbers routes trip_routes (map (nth trips_route_id) rows)
  pub services_are : AreNumbers services trip_services (map (nth trips_service_id) rows)

-- each id keeps its number
abbrev pub Extends : List (List ℕ) → List (List ℕ) → Type 0
Extends ids more = (number : ℕ) (id : List ℕ) → slice_get ids number ≡ Some id → slice_get more number ≡ Some id

-- each service among the ids has the calendar that the rows give it, no other number has one, and the rows' services
-- are among the ids
pub record HoldsCalendars (before services : List (List ℕ)) (calendars : Calendars) (rows : List Row) : Type 0 where
  pub inside : (number : ℕ) (service : List ℕ) → slice_get services number ≡ Some service
      → calendar_at calendars number ≡ calendar_in rows service
  pub extends : Extends before services
  pub outside : (number : ℕ) → length services ≤ number → calendar_at calendars number ≡ None
  pub known : list_all (λ row. has_id (nth calendar_service_id row) services) rows ≡ true

-- and the exceptions
pub record HoldsDates (before services : List (List ℕ)) (exceptions : Exceptions) (rows : List Row) : Type 0 where
  pub inside : (number : ℕ) (service : List ℕ) (day : ℤ) → slice_get services number ≡ Some service
      → exception_at exceptions number day ≡ exception_in rows service day
  pub extends : Extends before services
  pub outside : (number : ℕ) (day : ℤ) → length services ≤ number → exception_at exceptions number day ≡ None
  pub known : list_all (λ row. has_id (nth dates_service_id row) services) rows ≡ true

-- each service has the calendar and the exceptions that the rows give it
pub record HoldsServices (services : List (List ℕ)) (calendars : Calendars) (exceptions : Exceptions)
    (calendar_rows date_rows : List Row) : Type 0 where
  pub calendars_are : (number : ℕ) (service : List ℕ) → slice_get services number ≡ Some service
      → calendar_at calendars number ≡ calendar_in calendar_rows service
  pub exceptions_are : (number : ℕ) (service : List ℕ) (day : ℤ) → slice_get services number ≡ Some service
      → exception_at exceptions number day ≡ exception_in date_rows service day

-- each trip has the stops that the rows give it, and the rows' trips are known
pub record HoldsStops (trips stops : List (List ℕ)) (by_trip : List (List LoadedStop)) (rows : List Row) : Type 0 where
  pub stops_are : by_trip ≡ map (stops_in stops rows) trips
  pub rising : list_all is_rising by_trip ≡ true
  pub known : list_all (λ row. has_id (nth stop_times_trip_id row) trips) rows ≡ true

-- a row of stop_times.txt has no fault by its fields, its trip stands at that place of the trips, and this is its stop
pub record IsKnown (trips stops : List (List ℕ)) (number : ℕ) (row : Row) (trip : ℕ) (stop : LoadedStop) : Type 0 where
  pub ids : are_ids trips ≡ true
  pub fits : Fits StopTimes number row
  pub trip_at : slice_get trips trip ≡ Some (nth stop_times_trip_id row)
  pub of_stop : has_id (nth stop_times_stop_id row) stops ≡ true
  pub loaded_is : stop ≡ loaded stops (number, row)
