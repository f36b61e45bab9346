-- The trips that are carried (GTFS Schedule reference, trips.txt and frequencies.txt).
use Rattle.std.specs.Prelude.{ℕ, Bool, not, List, map, filter}
use Rattle.timetable.specs.Ids.{has_id}
use Rattle.stop_schedule.specs.Places.{frequencies_trip_id, trips_trip_id}
use Rattle.stop_schedule.specs.Sheet.{Row, nth}

-- no row of frequencies.txt names the trip
abbrev pub is_carried : List Row → List ℕ → Bool
is_carried frequencies trip = not (has_id trip (map (nth frequencies_trip_id) frequencies))

-- the rows of the trips that are carried
abbrev pub carried_rows : List Row → List Row → List Row
carried_rows frequencies trips = filter (λ row. is_carried frequencies (nth trips_trip_id row)) trips
