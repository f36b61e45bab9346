-- One more row of trips.txt.
use Rattle.std.proofs.Common.{◌≡◌, ◌∙◌, true, false, ℕ, List, [], ◌∷◌, ◌++◌, map, slice_get, None, Some, refl, ap, sym}
use Rattle.std.proofs.lemmas.List.{map-append}
use Rattle.stop_schedule.specs.Causes.{trip_fault}
use Rattle.stop_schedule.specs.Holding.{AreNumbers, HoldsTrips}
use Rattle.timetable.specs.Ids.{has_id, with_id}
use Rattle.stop_schedule.specs.Sheet.{Row, nth}
use Rattle.stop_schedule.proofs.ServiceLemmas.{extends-with, numbers-grow}

numbers-after : (ids : List (List ℕ)) (numbers : List ℕ) (number column : ℕ) (before : List Row) (row : Row)
    → AreNumbers ids numbers (map (nth column) before)
    → slice_get ids number ≡ Some (nth column row)
    → AreNumbers ids (numbers ++ number ∷ []) (map (nth column) (before ++ row ∷ []))
numbers-after ids numbers number column before row are at =
    map-append (slice_get ids) numbers (number ∷ []) ∙ ap (λ front. front ++ slice_get ids number ∷ []) are
    ∙ ap (λ last. map Some (map (nth column) before) ++ last ∷ []) at
    ∙ sym (map-append Some (map (nth column) before) (nth column row ∷ []))
    ∙ ap (map Some) (sym (map-append (nth column) before (row ∷ [])))

pub trip-held : (routes services trips more all : List (List ℕ))
    (trip_routes trip_services more_routes more_services : List ℕ) (route service : ℕ) (before : List Row) (row : Row)
    → HoldsTrips routes services trips trip_routes trip_services before → slice_get routes route ≡ Some (nth 1 row)
    → more ≡ with_id (nth 2 row) services → slice_get more service ≡ Some (nth 2 row) → all ≡ trips ++ nth 0 row ∷ []
    → more_routes ≡ trip_routes ++ route ∷ [] → more_services ≡ trip_services ++ service ∷ []
    → HoldsTrips routes more all more_routes more_services (before ++ row ∷ [])
trip-held routes services trips more all trip_routes trip_services more_routes more_services route service before row
    holds on_route grown on_service added one two = record {
      ids = added ∙ ap (λ ids. ids ++ nth 0 row ∷ []) holds.ids ∙ sym (map-append (nth 0) before (row ∷ []));
      routes_are = rw one (numbers-after routes trip_routes route 1 before row holds.routes_are on_route);
      services_are = rw two (numbers-after more trip_services service 2 before row
          (rw grown (numbers-grow services (with_id (nth 2 row) services) trip_services (map (nth 2) before)
          (extends-with services (nth 2 row)) holds.services_are)) on_service);
    }

pub no-trip-fault : (routes trips : List (List ℕ)) (before : List Row) (row : Row) → has_id (nth 1 row) routes ≡ true
    → trips ≡ map (nth 0) before → has_id (nth 0 row) trips ≡ false
    → trip_fault routes before row ≡ None
no-trip-fault routes trips before row on_route ids new =
    let fresh : has_id (nth 0 row) (map (nth 0) before) ≡ false = rw (← ids) new in
    rw (on_route, fresh) refl
