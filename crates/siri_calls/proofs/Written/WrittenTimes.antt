-- The readings of a journey, one near each stop of its trip.
use Rattle.std.proofs.Common.{◌≡◌, ℕ, ℤ, map, ◌<◌, nat_le, nat_lt, true, List, [], ◌∷◌, length, slice_get, Some, refl, arith, suc, zero}
use Rattle.std.proofs.lemmas.Bool.{and_parts}
use Rattle.timetable.specs.Planned.{planned}
use Rattle.timetable.specs.declared.stop_row.StopRow.{StopRow}
use Rattle.journey_model.specs.Matching.{is_of_station}
use Rattle.journey_model.specs.Places.{are_of_station, are_placed, is_placed, keeps_places, places_limit, readings_size}
use Rattle.journey_model.specs.Readings.{are_near, fits_trip, is_near}
use Rattle.journey_model.specs.Runs.{Run}
use Rattle.journey_model.specs.declared.readings.JourneyReading.{JourneyReading}
use Rattle.journey_model.specs.declared.readings.JourneyReading.TheVariants.{Cancelled, Stops}
use Rattle.journey_model.specs.declared.readings.StopReading.{StopReading}
use Rattle.journey_model.specs.declared.readings.StopReading.TheVariants.{Absent, Skipped, Timed}
use Rattle.siri_calls.specs.Written.DeliveryTree.{called_at, skipped_at, stop_readings}
use Rattle.siri_calls.proofs.StationLemmas.{other-way, same-number}

-- each reading of a trip is near the planned times of its stop
pub near_at : (start : ℤ) (rows : List StopRow) (readings : List StopReading) (position : ℕ) (row : StopRow) (reading : StopReading)
    → are_near start rows readings ≡ true → slice_get rows position ≡ Some row → slice_get readings position ≡ Some reading
    → is_near (planned start row) reading ≡ true
near_at start [] readings position row reading near at there = absurd (cc)
near_at start (one ∷ rows) [] position row reading near at there = absurd (cc)
near_at start (one ∷ rows) (first ∷ readings) zero row reading near at there =
    let same : one ≡ row = cc in
    let same_reading : first ≡ reading = cc in
    rw (← same, ← same_reading) (and_parts _ _ near).0
near_at start (one ∷ rows) (first ∷ readings) (suc position) row reading near at there =
    near_at start rows readings position row reading (and_parts (is_near (planned start one) first) (are_near start rows readings) near).1 at there

-- a journey that skips all stops is near
pub all_skipped : (start : ℤ) (rows : List StopRow) → are_near start rows (map skipped_at rows) ≡ true
all_skipped start [] = refl
all_skipped start (row ∷ rows) = all_skipped start rows

-- a journey that skips all stops skips each
pub skipped_there : (rows : List StopRow) (position : ℕ) → position < length rows → slice_get (map skipped_at rows) position ≡ Some Skipped
skipped_there [] position within = absurd (omega arith)
skipped_there (row ∷ rows) zero within = refl
skipped_there (row ∷ rows) (suc position) within = skipped_there rows position (omega arith)

-- the readings of a journey that fits its trip: one near each stop
pub fits_near : (run : Run) (reading : JourneyReading) → fits_trip run reading ≡ true → are_near run.start run.stops (stop_readings run reading) ≡ true
fits_near run Cancelled fits = all_skipped run.start run.stops
fits_near run (Stops readings) fits = (and_parts (are_near run.start run.stops readings) (keeps_places run readings) fits).0

-- each reading of a trip is at a place of its stop's station
pub placed_at : (run : Run) (rows : List StopRow) (readings : List StopReading) (position : ℕ) (row : StopRow) (reading : StopReading)
    → are_placed run rows readings ≡ true → slice_get rows position ≡ Some row → slice_get readings position ≡ Some reading
    → is_placed run row reading ≡ true
placed_at run [] readings position row reading placed at there = absurd (cc)
placed_at run (one ∷ rows) [] position row reading placed at there = absurd (cc)
placed_at run (one ∷ rows) (first ∷ readings) zero row reading placed at there =
    let same : one ≡ row = cc in
    let same_reading : first ≡ reading = cc in
    rw (← same, ← same_reading) (and_parts (is_placed run one first) (are_placed run rows readings) placed).0
placed_at run (one ∷ rows) (first ∷ readings) (suc position) row reading placed at there =
    placed_at run rows readings position row reading (and_parts (is_placed run one first) (are_placed run rows readings) placed).1 at there

-- a journey that skips all stops has no places
all_placed : (run : Run) (rows : List StopRow) → are_placed run rows (map skipped_at rows) ≡ true
all_placed run [] = refl
all_placed run (row ∷ rows) = all_placed run rows

-- the places of a journey that fits its trip
pub fits_placed : (run : Run) (reading : JourneyReading) → fits_trip run reading ≡ true → are_placed run run.stops (stop_readings run reading) ≡ true
fits_placed run Cancelled fits = all_placed run run.stops
fits_placed run (Stops readings) fits =
    let keeps = (and_parts (are_near run.start run.stops readings) (keeps_places run readings) fits).1 in
    (and_parts (are_placed run run.stops readings) (nat_le (readings_size run.ids run.stops readings) places_limit) keeps).0

-- the stop of a call is known, and of the station of the scheduled one
pub called_known : (run : Run) (row : StopRow) (reading : StopReading) → nat_lt row.stop.0 (length run.ids) ≡ true → is_placed run row reading ≡ true
    → nat_lt (called_at row reading) (length run.ids) ≡ true
called_known run row Absent known placed = known
called_known run row Skipped known placed = known
called_known run row (Timed arrival departure place) known placed =
    (and_parts (nat_lt place.0 (length run.ids)) (are_of_station run.station_of place.0 row.stop.0) placed).0

pub called_station : (run : Run) (row : StopRow) (reading : StopReading) → is_placed run row reading ≡ true
    → is_of_station run.station_of (called_at row reading) row ≡ true
called_station run row Absent placed = same-number (run.station_of row.stop.0)
called_station run row Skipped placed = same-number (run.station_of row.stop.0)
called_station run row (Timed arrival departure place) placed =
    other-way (run.station_of place.0) (run.station_of row.stop.0) (and_parts (nat_lt place.0 (length run.ids)) (are_of_station run.station_of place.0 row.stop.0) placed).1
