-- What every timetable keeps.
use Rattle.std.specs.Prelude.{◌≡◌, ◌<◌, ℕ, true, length}
use Rattle.timetable.specs.Ids.{are_ids, is_id}
use Rattle.timetable.specs.Stops.{are_stops_of}
use Rattle.timetable.specs.Table.{Table}

-- the ids of trips, stops and routes are texts of one byte to `id_limit` of which no two are equal; the stops of each
-- trip are at most `stop_limit`, rise in sequence, are known and have times of at most 99:59:59; and the route of
-- each trip has an id; the station of each stop is one of the stops
pub record IsSound (table : Table) : Type 0 where
  pub trips : are_ids table.trips ≡ true
  pub stops : are_ids table.stops ≡ true
  pub routes : are_ids table.routes ≡ true
  pub stops_of : (trip : ℕ) → trip < length table.trips → are_stops_of (length table.stops) (table.stops_of trip) ≡ true
  pub route_of : (trip : ℕ) → trip < length table.trips → is_id (table.route_of trip) ≡ true
  pub station_of : (stop : ℕ) → stop < length table.stops → table.station_of stop < length table.stops
