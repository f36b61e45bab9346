-- What a timetable keeps of all of its trips.
use Rattle.std.proofs.Common.{◌≡◌, ◌<◌, ℕ, zero, suc, true, nat_le, nat_lt, List, [], ◌∷◌, length, slice_get, drop, take, unwrap_or, arith, refl}
use Rattle.std.specs.List.{list_all}
use Rattle.std.proofs.lemmas.Bool.{ltb-true}
use Rattle.timetable.specs.Held.{are_in_range, are_stations, is_in_range, route_held, station_held, station_or, stops_held}
use Rattle.timetable.specs.Ids.{are_ids, is_id}
use Rattle.timetable.specs.Stops.{are_stops_of}
use Rattle.timetable.specs.declared.carried_trip.CarriedTrip.{CarriedTrip}
use Rattle.timetable.specs.declared.stop_row.StopRow.{StopRow}
use Rattle.timetable.specs.declared.numbers.StopNo.{StopNo}
use Rattle.timetable.proofs.IdLemmas.{and-left, and-right}

id-within : (ids : List (List ℕ)) (n : ℕ) → n < length ids → list_all is_id ids ≡ true
    → is_id (unwrap_or (slice_get ids n) []) ≡ true
id-within [] n within all = absurd (omega arith)
id-within (id ∷ ids) zero within all = and-left (is_id id) _ all
id-within (id ∷ ids) (suc n) within all = id-within ids n (omega arith) (and-right (is_id id) _ all)

-- the parts of what is known of a trip that is carried
pub stops-in : (routes stops : ℕ) (rows : List StopRow) (trip : CarriedTrip) → is_in_range routes stops rows trip ≡ true
    → are_stops_of stops (drop trip.first (take trip.end rows)) ≡ true
stops-in routes stops rows trip h =
    and-right (nat_le trip.end (length rows)) _
    (and-right (nat_le trip.first trip.end) _ (and-right (nat_lt trip.route routes) _ h))

stops-at : (routes stops : ℕ) (rows : List StopRow) (carried : List CarriedTrip) (trip : ℕ)
    → list_all (is_in_range routes stops rows) carried ≡ true
    → are_stops_of stops (stops_held rows (slice_get carried trip)) ≡ true
stops-at routes stops rows [] trip all = refl
stops-at routes stops rows (one ∷ others) zero all =
    stops-in routes stops rows one (and-left (is_in_range routes stops rows one) _ all)
stops-at routes stops rows (one ∷ others) (suc trip) all =
    stops-at routes stops rows others trip (and-right (is_in_range routes stops rows one) _ all)

route-at : (routes : List (List ℕ)) (stops : ℕ) (rows : List StopRow) (carried : List CarriedTrip) (trip : ℕ)
    → trip < length carried
    → list_all is_id routes ≡ true → list_all (is_in_range (length routes) stops rows) carried ≡ true
    → is_id (route_held routes (slice_get carried trip)) ≡ true
route-at routes stops rows [] trip within ids all = absurd (omega arith)
route-at routes stops rows (one ∷ others) zero within ids all =
    let inside : nat_lt one.route (length routes) ≡ true =
    and-left (nat_lt one.route (length routes)) _ (and-left (is_in_range (length routes) stops rows one) _ all) in
    id-within routes one.route (ltb-true one.route (length routes) inside) ids
route-at routes stops rows (one ∷ others) (suc trip) within ids all =
    route-at routes stops rows others trip (omega arith) ids
    (and-right (is_in_range (length routes) stops rows one) _ all)

-- each trip of a timetable whose numbers are in range has its stops and its route
pub each-in : (trips routes stops : List (List ℕ)) (carried : List CarriedTrip) (rows : List StopRow)
    → are_in_range trips routes stops carried rows ≡ true
    → list_all (is_in_range (length routes) (length stops) rows) carried ≡ true
each-in trips routes stops carried rows h = grind (arith, h)

pub stops-sound : (trips routes stops : List (List ℕ)) (carried : List CarriedTrip) (rows : List StopRow)
    → are_in_range trips routes stops carried rows ≡ true
    → (trip : ℕ) → trip < length trips → are_stops_of (length stops) (stops_held rows (slice_get carried trip)) ≡ true
stops-sound trips routes stops carried rows h trip within =
    stops-at (length routes) (length stops) rows carried trip (each-in trips routes stops carried rows h)

as-many : (trips routes stops : List (List ℕ)) (carried : List CarriedTrip) (rows : List StopRow)
    → are_in_range trips routes stops carried rows ≡ true
    → length carried ≡ length trips
as-many trips routes stops carried rows h = grind (arith, h)

pub routes-sound : (trips routes stops : List (List ℕ)) (carried : List CarriedTrip) (rows : List StopRow)
    → are_in_range trips routes stops carried rows ≡ true
    → are_ids routes ≡ true → (trip : ℕ) → trip < length trips
    → is_id (route_held routes (slice_get carried trip)) ≡ true
routes-sound trips routes stops carried rows h ids trip within =
    route-at routes (length stops) rows carried trip
    (let same = as-many trips routes stops carried rows h in omega (arith, same))
    (and-left (list_all is_id routes) _ ids) (each-in trips routes stops carried rows h)

-- ---- the stations of stops

-- the station of a stop is one of the stops
station-in : (stops : ℕ) (stations : List StopNo) (place stop : ℕ) → stop < stops → are_stations stops stations ≡ true
    → station_or (slice_get stations place) stop < stops
station-in stops [] place stop within all = within
station-in stops (station ∷ stations) zero stop within all =
    ltb-true station.0 stops (and-left (nat_lt station.0 stops) _ all)
station-in stops (station ∷ stations) (suc place) stop within all =
    station-in stops stations place stop within (and-right (nat_lt station.0 stops) _ all)

pub stations-sound : (stops : ℕ) (stations : List StopNo) → are_stations stops stations ≡ true
    → (stop : ℕ) → stop < stops → station_held stations stop < stops
stations-sound stops stations all stop within = station-in stops stations stop stop within all
