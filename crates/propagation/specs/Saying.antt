-- What an update says at its position (GTFS Realtime reference, StopTimeUpdate).
use Rattle.std.specs.Prelude.{◌≡◌, ◌==◌, ◌<◌, ℕ, ℤ, ◌-ℤ◌, false, List, map, Option, Some, None, Result, Ok, Err, if◌then◌else◌, ⊤}
use Rattle.std.specs.List.{zip}
use Rattle.gw_base.specs.declared.messages.StopUpdate.{StopUpdate}
use Rattle.timetable.specs.declared.numbers.StopNo.{StopNo}
use Rattle.journey_model.specs.Places.{place_size}
use Rattle.journey_model.specs.Runs.{Run, planned_at}
use Rattle.journey_model.specs.Updates.{is_no_data, is_skipped, place_at, times}
use Rattle.journey_model.specs.declared.fault.Fault.{Fault}
use Rattle.propagation.specs.declared.placing.MatchedUpdate.{MatchedUpdate}
use Rattle.propagation.specs.declared.placing.Prediction.{Prediction}
use Rattle.propagation.specs.declared.placing.Prediction.TheVariants.{Skipped, NoData, Timed}

-- what times at a place say, with the delay of the departure
abbrev pub timed_by : StopNo → ℤ × ℤ → ℤ × ℤ → Prediction
timed_by place planned both = Timed both.0 both.1 (both.1 -ℤ planned.1) place

-- what times at a place say, if there are any
abbrev pub says_times : StopNo → ℤ × ℤ → Option (ℤ × ℤ) → Prediction
says_times place planned None = NoData
says_times place planned (Some both) = timed_by place planned both

-- what an update says at a position
abbrev pub says_at : Run → ℕ → StopUpdate → Prediction
says_at run position update =
    if is_skipped update then Skipped
    else (if is_no_data update then NoData
    else says_times (place_at run position update) (planned_at run position) (times (planned_at run position) update))

-- an update at a position
abbrev pub placed_at : Run → ℕ × StopUpdate → MatchedUpdate
placed_at run one = record { position = one.0; says = says_at run one.0 one.1 }

-- an update at its position, unless it has a fault
abbrev pub placed_by : Run → StopUpdate → Result ℕ Fault → Result MatchedUpdate Fault
placed_by run update (Err fault) = Err fault
placed_by run update (Ok position) = Ok (placed_at run (position, update))

-- updates at their places, unless there is a fault
abbrev pub placed_all : Run → List StopUpdate → Result (List ℕ) Fault → Result (List MatchedUpdate) Fault
placed_all run updates (Err fault) = Err fault
placed_all run updates (Ok at) = Ok (map (placed_at run) (zip at updates))

-- a place that isn't the scheduled stop is one of so many stops
abbrev pub IsNamed : ℕ → ℕ → ℕ → Type 0
IsNamed stops scheduled place = (place == scheduled) ≡ false → place < stops

-- so is the place that is said of a scheduled stop
abbrev pub IsPlaced : ℕ → ℕ → Prediction → Type 0
IsPlaced stops scheduled Skipped = ⊤
IsPlaced stops scheduled NoData = ⊤
IsPlaced stops scheduled (Timed arrival departure delay place) = IsNamed stops scheduled place.0

-- the bytes of the id of the place that is said of a scheduled stop, where it is another
abbrev pub says_size : List (List ℕ) → ℕ → Prediction → ℕ
says_size ids scheduled Skipped = 0
says_size ids scheduled NoData = 0
says_size ids scheduled (Timed arrival departure delay place) = place_size ids scheduled place.0
