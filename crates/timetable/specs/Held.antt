-- What a timetable holds of its trips.
use Rattle.std.specs.Prelude.{◌&&◌, ◌==◌, ℕ, ℤ, Bool, false, nat_le, nat_lt, List, [], length, take, drop, slice_get, unwrap_or, Option, Some, None}
use Rattle.std.specs.List.{list_all}
use Rattle.timetable.specs.Limits.{trip_limit}
use Rattle.timetable.specs.Services.{Calendars, Exceptions, calendar_at, exception_at, runs_by}
use Rattle.timetable.specs.Stops.{are_stops_of}
use Rattle.timetable.specs.Table.{Table}
use Rattle.timetable.specs.declared.stop_row.StopRow.{StopRow}
use Rattle.timetable.specs.declared.carried_trip.CarriedTrip.{CarriedTrip}
use Rattle.timetable.specs.declared.services.Services.{Services}
use Rattle.timetable.specs.declared.numbers.StopNo.{StopNo}

abbrev pub route_held : List (List ℕ) → Option CarriedTrip → List ℕ
route_held routes None = []
route_held routes (Some trip) = unwrap_or (slice_get routes trip.route) []

abbrev pub stops_held : List StopRow → Option CarriedTrip → List StopRow
stops_held rows None = []
stops_held rows (Some trip) = drop trip.first (take trip.end rows)

abbrev pub runs_held : Calendars → Exceptions → Option CarriedTrip → ℤ → Bool
runs_held calendars exceptions None day = false
runs_held calendars exceptions (Some trip) day =
    runs_by (exception_at exceptions trip.service day) (calendar_at calendars trip.service) day

-- the number of a stop, or else that one
abbrev pub station_or : Option StopNo → ℕ → ℕ
station_or None stop = stop
station_or (Some station) stop = station.0

-- the station of a stop: the one that stands at its place, or the stop itself where none does
abbrev pub station_held : List StopNo → ℕ → ℕ
station_held stations stop = station_or (slice_get stations stop) stop

-- each station is one of so many stops
abbrev pub are_stations : ℕ → List StopNo → Bool
are_stations stops stations = list_all (λ station. nat_lt station.0 stops) stations

-- a trip's numbers and places are in range, and its stops are those of a trip
abbrev pub is_in_range : ℕ → ℕ → List StopRow → CarriedTrip → Bool
is_in_range routes stops rows trip =
    nat_lt trip.route routes && (nat_le trip.first trip.end && (nat_le trip.end (length rows)
    && are_stops_of stops (drop trip.first (take trip.end rows))))

-- each trip has its numbers, places and stops, and there are no more than a timetable has
abbrev pub are_in_range : List (List ℕ) → List (List ℕ) → List (List ℕ) → List CarriedTrip → List StopRow → Bool
are_in_range trips routes stops carried rows =
    (length carried == length trips) && (nat_le (length trips) trip_limit
    && list_all (is_in_range (length routes) (length stops) rows) carried)

-- what is shown of ids of trips, stops and routes, of the trips that are carried with all their stops, of services, and
-- of the stations of stops
abbrev pub shown : List (List ℕ) → List (List ℕ) → List (List ℕ) → List CarriedTrip → List StopRow → Services
    → List StopNo → Table
shown trips stops routes carried rows services stations = record {
  trips = trips;
  stops = stops;
  routes = routes;
  route_of = λ trip. route_held routes (slice_get carried trip);
  stops_of = λ trip. stops_held rows (slice_get carried trip);
  runs = λ trip day. runs_held services.calendars services.exceptions (slice_get carried trip) day;
  station_of = λ stop. station_held stations stop;
}
