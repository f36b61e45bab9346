-- What placed updates say of the stops of a trip, stop by stop.
use Rattle.std.specs.Prelude.{◌&&◌, ◌==◌, ◌+◌, ℕ, ℤ, Bool, true, nat_le, List, [], ◌∷◌, Option, Some, None, if◌then◌else◌}
use Rattle.gw_base.specs.declared.messages.StopUpdate.{StopUpdate}
use Rattle.timetable.specs.declared.numbers.StopNo.{StopNo}
use Rattle.journey_model.specs.Propagation.{later_by}
use Rattle.journey_model.specs.declared.readings.StopReading.{StopReading}
use Rattle.journey_model.specs.declared.readings.StopReading.TheVariants as reading
use Rattle.propagation.specs.declared.placing.MatchedUpdate.{MatchedUpdate}
use Rattle.propagation.specs.declared.placing.Prediction.{Prediction}
use Rattle.propagation.specs.declared.placing.Prediction.TheVariants.{Skipped, NoData, Timed}

-- places rise, from a position on
abbrev pub are_rising_from : ℕ → List (ℕ × StopUpdate) → Bool
are_rising_from from [] = true
are_rising_from from (one ∷ others) = nat_le from one.0 && are_rising_from (one.0 + 1) others

-- what the first update says, if it stands at that position
abbrev pub first_at : List MatchedUpdate → ℕ → Option Prediction
first_at [] position = None
first_at (first ∷ others) position = if first.position == position then Some first.says else None

-- the delay that is carried on from a stop of which this is said: SKIPPED leaves it, and NO_DATA ends it
abbrev pub delay_after : Option ℤ → Option Prediction → Option ℤ
delay_after delay None = delay
delay_after delay (Some Skipped) = delay
delay_after delay (Some NoData) = None
delay_after delay (Some (Timed arrival departure later place)) = Some later

-- both planned times at the scheduled stop, later by a delay that is carried on
abbrev pub later : StopNo → ℤ × ℤ → Option ℤ → StopReading
later scheduled planned None = reading.Absent
later scheduled planned (Some delay) = later_by scheduled planned delay

-- how a scheduled stop with these planned times reads: by what is said of it, else by the delay that is carried on
abbrev pub reading_at : StopNo → ℤ × ℤ → Option ℤ → Option Prediction → StopReading
reading_at scheduled planned delay None = later scheduled planned delay
reading_at scheduled planned delay (Some Skipped) = reading.Skipped
reading_at scheduled planned delay (Some NoData) = reading.Absent
reading_at scheduled planned delay (Some (Timed arrival departure late place)) = reading.Timed arrival departure place
