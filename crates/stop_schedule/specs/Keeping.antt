-- What is known of what was made of rows, whatever they say and whether files are told or not. No public contract
-- cites it.
use Rattle.std.specs.Prelude.{◌≡◌, ◌≤◌, ◌<◌, ◌+◌, ◌&&◌, ℕ, Bool, true, nat_le, nat_lt, List, length, Option, Some, None}
use Rattle.std.specs.List.{list_all}
use Rattle.stop_schedule.specs.Limits.{row_limit}
use Rattle.timetable.specs.Limits.{stop_limit, time_limit}
use Rattle.stop_schedule.specs.Rising.{is_rising}
use Rattle.stop_schedule.specs.declared.stop_times.LoadedStop.{LoadedStop}
use Rattle.stop_schedule.specs.declared.table_file.TableFile.TheVariants.{Trips}

-- it keeps this after as many rows as there are, which are at most so many
abbrev pub KeepsTo : {S : Type 0} → (S → ℕ → Type 0) → S → ℕ → Type 0
KeepsTo Keeps taker limit = (rows : ℕ) × (rows ≤ limit) × Keeps taker (rows + 1)

-- each of the numbers is less than that
abbrev pub are_below : ℕ → List ℕ → Bool
are_below limit numbers = list_all (λ number. nat_lt number limit) numbers

-- as many numbers of routes as trips, each of one of so many routes, and fewer trips and services than rows with the
-- next one
pub record KeepsTrips (routes : ℕ) (trips services : List (List ℕ)) (trip_routes : List ℕ) (number : ℕ) : Type 0 where
  pub trips_few : length trips < number
  pub services_few : length services < number
  pub as_many : length trip_routes ≡ length trips
  pub known : are_below routes trip_routes ≡ true

-- the same of all rows of a folder
pub record HasTrips (routes : ℕ) (trips : List (List ℕ)) (trip_routes : List ℕ) : Type 0 where
  pub few : length trips ≤ row_limit Trips
  pub as_many : length trip_routes ≡ length trips
  pub known : are_below routes trip_routes ≡ true

-- times are at most 99:59:59 from the start of the service day, where there are any
abbrev pub are_times : Option (ℕ × ℕ) → Bool
are_times None = true
are_times (Some times) = nat_le times.0 time_limit && nat_le times.1 time_limit

-- a stop is one of this many, and has such times
abbrev pub is_loaded : ℕ → LoadedStop → Bool
is_loaded stops stop = nat_lt stop.stop.0 stops && are_times stop.times

-- no more such stops than a trip has, in rising sequence
abbrev pub are_loaded : ℕ → List LoadedStop → Bool
are_loaded stops held = nat_le (length held) stop_limit && (is_rising held && list_all (is_loaded stops) held)

-- and those of each trip
abbrev pub all_loaded : ℕ → List (List LoadedStop) → Bool
all_loaded stops by_trip = list_all (are_loaded stops) by_trip
