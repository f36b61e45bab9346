-- Readings that can be served over a trip.
use Rattle.std.specs.Prelude.{◌&&◌, ℤ, ◌-ℤ◌, Bool, true, false, List, [], ◌∷◌}
use Rattle.gw_base.specs.Moments.{IsMoment}
use Rattle.journey_model.specs.Places.{keeps_places}
use Rattle.journey_model.specs.Runs.{Run}
use Rattle.journey_model.specs.Times.{is_delay}
use Rattle.timetable.specs.Planned.{planned}
use Rattle.timetable.specs.declared.stop_row.StopRow.{StopRow}
use Rattle.journey_model.specs.declared.readings.StopReading.{StopReading}
use Rattle.journey_model.specs.declared.readings.StopReading.TheVariants.{Absent, Skipped, Timed}
use Rattle.journey_model.specs.declared.readings.JourneyReading.{JourneyReading}
use Rattle.journey_model.specs.declared.readings.JourneyReading.TheVariants.{Cancelled, Stops}

-- the stop is skipped, or nothing is known of it
abbrev pub is_skipped : StopReading → Bool
is_skipped Absent = false
is_skipped Skipped = true
is_skipped (Timed arrival departure place) = false

abbrev pub is_absent : StopReading → Bool
is_absent Absent = true
is_absent Skipped = false
is_absent (Timed arrival departure place) = false

-- the times of a stop are at most a week from the planned ones
abbrev pub is_near : ℤ × ℤ → StopReading → Bool
is_near planned Absent = true
is_near planned Skipped = true
is_near planned (Timed arrival departure place) = is_delay (arrival -ℤ planned.0) && is_delay (departure -ℤ planned.1)

-- the times that a stop reads are moments
abbrev pub AreMoments : StopReading → Type 0
AreMoments Absent = Unit {0}
AreMoments Skipped = Unit {0}
AreMoments (Timed arrival departure place) = IsMoment arrival × IsMoment departure

-- one reading for each of the stops, at most a week from their planned times
abbrev pub are_near : ℤ → List StopRow → List StopReading → Bool
are_near start [] [] = true
are_near start [] (reading ∷ readings) = false
are_near start (row ∷ rows) [] = false
are_near start (row ∷ rows) (reading ∷ readings) = is_near (planned start row) reading && are_near start rows readings

-- a journey's reading fits a trip on a day: it is cancelled, or has one such reading for each stop, at a place of the
-- stop's station
abbrev pub fits_trip : Run → JourneyReading → Bool
fits_trip run Cancelled = true
fits_trip run (Stops readings) = are_near run.start run.stops readings && keeps_places run readings
