-- What a list of updates says of each stop (GTFS Realtime reference, StopTimeUpdate: a delay is propagated to the stops
-- after; SKIPPED; NO_DATA).
use Rattle.std.specs.Prelude.{◌==◌, ◌&&◌, ℕ, ℤ, ◌+ℤ◌, ◌-ℤ◌, nat_le, Bool, not, List, [], ◌∷◌, length, map, Option, Some, None, if◌then◌else◌}
use Rattle.std.specs.List.{list_any, range_with_len, zip}
use Rattle.gw_base.specs.declared.messages.StopUpdate.{StopUpdate}
use Rattle.timetable.specs.declared.numbers.StopNo.{StopNo}
use Rattle.journey_model.specs.Runs.{Run, planned_at, stop_at}
use Rattle.journey_model.specs.Updates.{is_no_data, is_skipped, place_at, times}
use Rattle.journey_model.specs.declared.readings.StopReading.{StopReading}
use Rattle.journey_model.specs.declared.readings.StopReading.TheVariants.{Absent, Skipped, Timed}

-- a SKIPPED update stands at the stop
abbrev pub skips_at : ℕ → List (ℕ × StopUpdate) → Bool
skips_at position placed = list_any (λ one. (one.0 == position) && is_skipped one.1) placed

-- an update isn't SKIPPED and stands at or before the stop
abbrev pub supplies : ℕ → ℕ × StopUpdate → Bool
supplies position one = nat_le one.0 position && not (is_skipped one.1)

-- of two updates the one of the greater position
abbrev pub greater : Option (ℕ × StopUpdate) → Option (ℕ × StopUpdate) → Option (ℕ × StopUpdate)
greater None other = other
greater (Some one) None = Some one
greater (Some one) (Some other) = if nat_le one.0 other.0 then Some other else Some one

-- of the updates that aren't SKIPPED, the one of the greatest position at or before the stop
abbrev pub supplier : ℕ → List (ℕ × StopUpdate) → Option (ℕ × StopUpdate)
supplier position [] = None
supplier position (one ∷ others) = greater (if supplies position one then Some one else None) (supplier position others)

-- a stop that is served at a place at the times, if there are any
abbrev pub timed : StopNo → Option (ℤ × ℤ) → StopReading
timed place None = Absent
timed place (Some both) = Timed both.0 both.1 place

-- both planned times, later by the delay of a departure at another position, at the scheduled stop
abbrev pub later_by : StopNo → ℤ × ℤ → ℤ → StopReading
later_by scheduled planned delay = Timed (planned.0 +ℤ delay) (planned.1 +ℤ delay) scheduled

abbrev pub carried : StopNo → ℤ × ℤ → ℤ × ℤ → Option (ℤ × ℤ) → StopReading
carried scheduled planned before None = Absent
carried scheduled planned before (Some both) = later_by scheduled planned (both.1 -ℤ before.1)

-- what the update at a position supplies to a stop at or after it: nothing for NO_DATA; at its position its own times
-- and its own place; after it the planned times and the delay of its departure
abbrev pub supplied : Run → ℕ → Option (ℕ × StopUpdate) → StopReading
supplied run position None = Absent
supplied run position (Some one) =
    if is_no_data one.1 then Absent else
    (if one.0 == position then timed (place_at run position one.1) (times (planned_at run position) one.1)
    else carried (stop_at run position) (planned_at run position) (planned_at run one.0)
    (times (planned_at run one.0) one.1))

-- the propagation: what placed updates say of the stop at a position
abbrev pub prop : Run → List (ℕ × StopUpdate) → ℕ → StopReading
prop run placed position =
    if skips_at position placed then Skipped else supplied run position (supplier position placed)

-- what updates at these places say of every stop
abbrev pub propagated : Run → List ℕ → List StopUpdate → List StopReading
propagated run places updates = map (prop run (zip places updates)) (range_with_len 0 (length run.stops))
