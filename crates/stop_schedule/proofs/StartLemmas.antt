-- What is held before the first row.
use Rattle.std.proofs.Common.{◌≡◌, ◌∙◌, ℕ, true, List, [], ◌∷◌, map, replicate, length, refl, ap}
use Rattle.std.specs.List.{list_all}
use Rattle.stop_schedule.specs.Holding.{HoldsStops}
use Rattle.stop_schedule.specs.Rising.{is_rising}
use Rattle.stop_schedule.specs.StopTimes.{stops_in}
use Rattle.stop_schedule.specs.Trips.{is_carried}
use Rattle.stop_schedule.specs.declared.stop_times.LoadedStop.{LoadedStop}

pub all-carried : (trips : List (List ℕ)) → replicate (length trips) true ≡ map (is_carried []) trips
all-carried [] = refl
all-carried (trip ∷ trips) = ap (λ rest. true ∷ rest) (all-carried trips)

no-stops : (trips stops : List (List ℕ)) → replicate (length trips) [] ≡ map (stops_in stops []) trips
no-stops [] stops = refl
no-stops (trip ∷ trips) stops = ap (λ rest. [] ∷ rest) (no-stops trips stops)

all-rising : (trips : List (List ℕ)) → list_all is_rising (replicate (length trips) []) ≡ true
all-rising [] = refl
all-rising (trip ∷ trips) = all-rising trips

pub holds-none : (trips stops : List (List ℕ)) (by_trip : List (List LoadedStop))
    → by_trip ≡ replicate (length trips) [] → HoldsStops trips stops by_trip []
holds-none trips stops by_trip is = record {
  stops_are = is ∙ no-stops trips stops;
  rising = ap (list_all is_rising) is ∙ all-rising trips;
  known = refl;
}
