-- What is made of the trips that are carried. No public contract cites it.
use Rattle.std.specs.Prelude.{◌≡◌, ◌≤◌, ℕ, zero, suc, Bool, false, List, [], ◌∷◌, ◌++◌, map, length, take, drop, slice_index_or, if◌then◌else◌}
use Rattle.std.specs.List.{AllZip}
use Rattle.stop_schedule.specs.StopTimes.{filled, least, lesser, untimed_end}
use Rattle.stop_schedule.specs.declared.assembling.Assembled.{Assembled}
use Rattle.timetable.specs.declared.carried_trip.CarriedTrip.{CarriedTrip}
use Rattle.stop_schedule.specs.declared.stop_times.LoadedStop.{LoadedStop}
use Rattle.timetable.specs.declared.stop_row.StopRow.{StopRow}

-- a trip: its id, the numbers of its route and its service, and its stops
pub record Candidate : Type 0 where
  pub id : List ℕ
  pub route : ℕ
  pub service : ℕ
  pub stops : List LoadedStop

-- what was read of all trips, place by place
pub record Lists : Type 0 where
  pub ids : List (List ℕ)
  pub routes : List ℕ
  pub services : List ℕ
  pub carried : List Bool
  pub by_trip : List (List LoadedStop)

abbrev pub candidate : Lists → ℕ → Candidate
candidate lists place = record {
  id = slice_index_or lists.ids place [];
  route = slice_index_or lists.routes place 0;
  service = slice_index_or lists.services place 0;
  stops = slice_index_or lists.by_trip place [];
}

-- those of the first places that are carried
abbrev pub carried_to : Lists → ℕ → List Candidate
carried_to lists zero = []
carried_to lists (suc place) =
    carried_to lists place ++ (if slice_index_or lists.carried place false then candidate lists place ∷ [] else [])

-- the ids of the first places that are carried
abbrev pub ids_to : List (List ℕ) → List Bool → ℕ → List (List ℕ)
ids_to ids carried zero = []
ids_to ids carried (suc place) =
    ids_to ids carried place ++ (if slice_index_or carried place false then slice_index_or ids place [] ∷ [] else [])

-- a trip's numbers, and the place of its stops among all
pub record IsOf (rows : List StopRow) (trip : CarriedTrip) (made_of : Candidate) : Type 0 where
  pub route_is : trip.route ≡ made_of.route
  pub service_is : trip.service ≡ made_of.service
  pub ordered : trip.first ≤ trip.end
  pub within : trip.end ≤ length rows
  pub stops_are : drop trip.first (take trip.end rows) ≡ filled made_of.stops

-- all but the ids is made of these trips
pub record Carries (all : Assembled) (candidates : List Candidate) : Type 0 where
  pub trips : AllZip (IsOf all.stop_rows.items) all.carried.items candidates
  pub untimed_is : all.untimed ≡ least (map (λ one. untimed_end one.stops) candidates)

-- one trip was added
pub record Adds (old new : Assembled) (one : Candidate) : Type 0 where
  pub rows : new.stop_rows.items ≡ old.stop_rows.items ++ filled one.stops
  pub carried :
      new.carried.items
      ≡ old.carried.items
      ++ record {
        route = one.route;
        service = one.service;
        first = length old.stop_rows.items;
        end = length new.stop_rows.items;
      } ∷ []
  pub untimed_is : new.untimed ≡ lesser old.untimed (untimed_end one.stops)
