-- The times of the stops of a journey are moments; and its readings are one for each stop.
use Rattle.std.proofs.Common.{◌≡◌, ◌&&◌, ◌<◌, ◌∷◌, [], ℕ, ℤ, true, List, length, take, drop, get_or, Option, Some, None, option_map, refl, sym, subst, ap}
use Rattle.std.specs.Prelude.{All, nat_le, slice_get}
use Rattle.std.proofs.lemmas.Bool.{and_parts, false≢true}
use Rattle.std.proofs.lemmas.Option.{none-some}
use Rattle.std.proofs.lemmas.List.Elements.{All-get_or, All-from_recursion}
use Rattle.std.specs.List.{AllByRecursion, list_all}
use Rattle.service_day.specs.Starts.{IsDayStart}
use Rattle.service_day.specs.Windows.{start_in}
use Rattle.timetable.proofs.IdLemmas.{all-at}
use Rattle.timetable.specs.Limits.{stop_limit}
use Rattle.timetable.specs.Held.{are_in_range, is_in_range, stops_held}
use Rattle.timetable.specs.Planned.{planned}
use Rattle.timetable.specs.Stops.{are_known, are_rising, are_stops_of, are_timed, is_timed}
use Rattle.timetable.specs.Table.{Table}
use Rattle.timetable.specs.declared.carried_trip.CarriedTrip.{CarriedTrip}
use Rattle.timetable.specs.declared.stop_row.StopRow.{StopRow}
use Rattle.timetable.proofs.SoundLemmas.{each-in, stops-in}
use Rattle.journey_model.specs.Dated.{run_of}
use Rattle.journey_model.specs.Places.{keeps_places}
use Rattle.journey_model.specs.Readings.{AreMoments, are_near, fits_trip, is_near}
use Rattle.journey_model.specs.Runs.{Run}
use Rattle.journey_model.specs.Schedules.{FitsSchedule, Schedule, run_from, run_on}
use Rattle.journey_model.specs.declared.context.DatedTrip.{DatedTrip}
use Rattle.journey_model.specs.declared.readings.JourneyReading.{JourneyReading}
use Rattle.journey_model.specs.declared.readings.JourneyReading.TheVariants.{Stops}
use Rattle.journey_model.specs.declared.readings.DatedReading.{DatedReading}
use Rattle.journey_model.specs.declared.readings.StopReading.{StopReading}
use Rattle.propagation.specs.Feeds.{IsServable}
use Rattle.journey_model.proofs.NearLemmas.{are_moments}

-- what is read of a feed fits its schedule
pub servable_fits : (schedule : Schedule) (journeys : List DatedReading) → All (IsServable schedule) journeys
    → All (λ one. FitsSchedule schedule one.trip.0 one.day one.reading) journeys
servable_fits schedule journeys servable = λ position one within. (servable position one within).fits_schedule

-- what holds of all holds of the one at a position
pub at_place : {X : Type 0} (P : X → Type 0) (xs : List X) (position : ℕ) (x : X) → All P xs → position < length xs → x ≡ get_or xs position x → P x
at_place P xs position x all within is = subst P (sym is) (All-get_or P xs position x within all)

-- the readings of stops that fit a schedule are near the planned times of the trip on its day
pub near_dated : (schedule : Schedule) (trip : ℕ) (day : ℤ) (reading : JourneyReading) (readings : List StopReading) (table : Table) (dated : DatedTrip)
    → FitsSchedule schedule trip day reading → reading ≡ Stops readings
    → option_map (run_of table) (Some dated) ≡ run_on schedule trip day → are_near dated.start dated.stops.now readings ≡ true
near_dated schedule trip day reading readings table dated fits stops on_day =
    let found = fits.on_day in
    let same : run_of table dated ≡ fits.run = cc in
    let fitting : fits_trip fits.run (Stops readings) ≡ true = rw stops at fits.fits in
    let whole : fits_trip (run_of table dated) (Stops readings) ≡ true =
    subst (λ (run : Run). fits_trip run (Stops readings) ≡ true) (sym same) fitting in
    (and_parts (are_near dated.start dated.stops.now readings) (keeps_places (run_of table dated) readings) whole).0

-- and the trip's stops are those of the timetable
pub stops_dated : (schedule : Schedule) (trip : ℕ) (day : ℤ) (reading : JourneyReading) (table : Table) (dated : DatedTrip) → FitsSchedule schedule trip day reading
    → option_map (run_of table) (Some dated) ≡ run_on schedule trip day → dated.stops.now ≡ schedule.table.stops_of trip
stops_dated schedule trip day reading table dated fits on_day = by (start_in schedule.window day) on_day fits.on_day
  where
    by : (start : Option ℤ) → option_map (run_of table) (Some dated) ≡ option_map (run_from schedule.table trip) start → option_map (run_from schedule.table trip) start ≡ Some fits.run
        → dated.stops.now ≡ schedule.table.stops_of trip
    by (Some start) is found =
        let same : run_of table dated ≡ run_from schedule.table trip start = cc in
        ap (λ (run : Run). run.stops) same
    by None is found = absurd (none-some fits.run found)

-- the stops of a trip are stops of the timetable
known_stops : (stops : ℕ) (rows : List StopRow) → are_stops_of stops rows ≡ true → are_known stops rows ≡ true
known_stops stops rows h =
    let after_few = and_parts (nat_le (length rows) stop_limit) (are_rising rows && (are_known stops rows && are_timed rows)) h in
    let after_rising = and_parts (are_rising rows) (are_known stops rows && are_timed rows) after_few.1 in
    (and_parts (are_known stops rows) (are_timed rows) after_rising.1).0

known_at : (routes stops : ℕ) (carried : List CarriedTrip) (rows : List StopRow) (trip : ℕ) (found : Option CarriedTrip) → list_all (is_in_range routes stops rows) carried ≡ true
    → slice_get carried trip ≡ found → are_known stops (stops_held rows found) ≡ true
known_at routes stops carried rows trip None all is = refl
known_at routes stops carried rows trip (Some one) all is =
    known_stops stops (drop one.first (take one.end rows)) (stops-in routes stops rows one (all-at (is_in_range routes stops rows) carried trip one all is))

pub known_held : (trips routes stops : List (List ℕ)) (carried : List CarriedTrip) (rows : List StopRow) (trip : ℕ) → are_in_range trips routes stops carried rows ≡ true
    → are_known (length stops) (stops_held rows (slice_get carried trip)) ≡ true
known_held trips routes stops carried rows trip in_range =
    known_at (length routes) (length stops) carried rows trip (slice_get carried trip) (each-in trips routes stops carried rows in_range) refl

-- and their times are moments
all_moments : (start : ℤ) (rows : List StopRow) (readings : List StopReading) → IsDayStart start → are_timed rows ≡ true → are_near start rows readings ≡ true
    → AllByRecursion AreMoments readings
all_moments start [] [] begins timed near = tt
all_moments start [] (reading ∷ readings) begins timed near = absurd (false≢true near)
all_moments start (row ∷ rows) [] begins timed near = tt
all_moments start (row ∷ rows) (reading ∷ readings) begins timed near =
    let here = and_parts (is_near (planned start row) reading) (are_near start rows readings) near in
    let times = and_parts (is_timed row) (are_timed rows) timed in
    (are_moments start row reading begins times.0 here.0, all_moments start rows readings begins times.1 here.1)

pub moments : (start : ℤ) (rows : List StopRow) (readings : List StopReading) → IsDayStart start → are_timed rows ≡ true → are_near start rows readings ≡ true
    → All AreMoments readings
moments start rows readings begins timed near = All-from_recursion AreMoments readings (all_moments start rows readings begins timed near)
