-- Readings near the planned times of their stops: as many, and their times are moments.
use Rattle.std.proofs.Common.{◌≡◌, ◌≤◌, ◌+ℤ◌, ◌-ℤ◌, ◌∷◌, [], ℕ, suc, ℤ, pos, List, length, true, nat_le, refl, ap, arith}
use Rattle.std.proofs.lemmas.Bool.{and_parts, leb-true}
use Rattle.std.proofs.lemmas.Int.{ints}
use Rattle.gw_base.specs.Moments.{IsMoment}
use Rattle.service_day.specs.Starts.{IsDayStart}
use Rattle.timetable.specs.Limits.{time_limit}
use Rattle.timetable.specs.Planned.{planned}
use Rattle.timetable.specs.Stops.{is_timed}
use Rattle.timetable.specs.declared.stop_row.StopRow.{StopRow}
use Rattle.journey_model.specs.Readings.{AreMoments, are_near, is_near}
use Rattle.journey_model.specs.Times.{is_delay}
use Rattle.journey_model.specs.declared.readings.StopReading.{StopReading}
use Rattle.journey_model.specs.declared.readings.StopReading.TheVariants.{Absent, Skipped, Timed}
use Rattle.journey_model.proofs.Delays.{delay-range}

-- there are as many readings as stops
pub as_many : (start : ℤ) (rows : List StopRow) (readings : List StopReading) → are_near start rows readings ≡ true
    → length readings ≡ length rows
as_many start [] [] near = refl
as_many start [] (reading ∷ readings) near = absurd (cc)
as_many start (row ∷ rows) [] near = absurd (cc)
as_many start (row ∷ rows) (reading ∷ readings) near =
    ap suc (as_many start rows readings
    (and_parts (is_near (planned start row) reading) (are_near start rows readings) near).1)

-- ---- moments

-- the seconds of a stop's times from the start of the day
timed_by : (row : StopRow) → is_timed row ≡ true → (row.arrival ≤ time_limit) × (row.departure ≤ time_limit)
timed_by row timed =
    let both = and_parts (nat_le row.arrival time_limit) (nat_le row.departure time_limit) timed in
    (leb-true row.arrival time_limit both.0, leb-true row.departure time_limit both.1)

pub planned_moments : (start : ℤ) (row : StopRow) → IsDayStart start → is_timed row ≡ true
    → IsMoment (planned start row).0 × IsMoment (planned start row).1
planned_moments start row day timed =
    let seconds = timed_by row timed in
    (omega (arith, ints, day, seconds.0), omega (arith, ints, day, seconds.1))

-- a time at most a week from a planned one
near_moment : (start : ℤ) (second : ℕ) (time : ℤ) → IsDayStart start → second ≤ time_limit
    → is_delay (time -ℤ (start +ℤ pos second)) ≡ true → IsMoment time
near_moment start second time day timed near =
    let bounds = delay-range (time -ℤ (start +ℤ pos second)) near in
    omega (arith, ints, day, timed, bounds.0, bounds.1)

pub are_moments : (start : ℤ) (row : StopRow) (reading : StopReading) → IsDayStart start → is_timed row ≡ true
    → is_near (planned start row) reading ≡ true → AreMoments reading
are_moments start row Absent day timed near = tt
are_moments start row Skipped day timed near = tt
are_moments start row (Timed arrival departure place) day timed near =
    let seconds = timed_by row timed in
    let delays = and_parts (is_delay (arrival -ℤ (planned start row).0)) (is_delay (departure -ℤ (planned start row).1))
    near in (
      near_moment start row.arrival arrival day seconds.0 delays.0,
      near_moment start row.departure departure day seconds.1 delays.1,
    )
