-- The visits of a journey that fits a schedule are calls of its trip on its day.
use Rattle.std.proofs.Common.{◌≡◌, ◌+◌, ◌∷◌, [], ◌++◌, ℕ, ℤ, zero, suc, Bool, true, false, List, drop, slice_get, Option, Some, None, IfSome, refl, add-one, length, cond, ◌&&◌, ◌==◌, ◌<◌}
use Rattle.std.specs.Prelude.{All}
use Rattle.std.specs.List.{AllByRecursion, enumerate_from, flat_map}
use Rattle.std.specs.Option.{option_to_list}
use Rattle.std.proofs.lemmas.Bool.{and_parts, false≢true}
use Rattle.std.proofs.lemmas.List.Elements.{All-append, All-from_recursion, All-nil}
use Rattle.timetable.specs.Planned.{planned}
use Rattle.timetable.specs.declared.stop_row.StopRow.{StopRow}
use Rattle.journey_model.specs.Places.{keeps_places}
use Rattle.journey_model.specs.Readings.{are_near, fits_trip, is_near}
use Rattle.journey_model.specs.Runs.{Run}
use Rattle.journey_model.specs.Schedules.{FitsSchedule, Schedule, run_on}
use Rattle.journey_model.specs.declared.readings.DatedReading.{DatedReading}
use Rattle.journey_model.specs.declared.readings.JourneyReading.{JourneyReading}
use Rattle.journey_model.specs.declared.readings.JourneyReading.TheVariants.{Cancelled, Stops}
use Rattle.journey_model.specs.declared.readings.StopReading.{StopReading}
use Rattle.journey_model.specs.declared.readings.StopReading.TheVariants.{Absent, Skipped, Timed}
use Rattle.stop_board.specs.Boards.{IsVisit}
use Rattle.stop_board.specs.Visits.{is_within, stops_of, visit_at, visits_among, visits_by, visits_of}
use Rattle.stop_board.specs.declared.visits.Asked.{Asked}
use Rattle.stop_board.specs.declared.visits.Visit.{Visit}

-- what is left from a place on begins with what stands there
stands-there : {X : Type 0} (xs : List X) (n : ℕ) (x : X) (others : List X) → drop n xs ≡ x ∷ others → slice_get xs n ≡ Some x
stands-there [] zero x others is = absurd (cc)
stands-there [] (suc n) x others is = absurd (cc)
stands-there (y ∷ ys) zero x others is = cc
stands-there (y ∷ ys) (suc n) x others is = stands-there ys n x others is

left-after : {X : Type 0} (xs : List X) (n : ℕ) (x : X) (others : List X) → drop n xs ≡ x ∷ others → drop (suc n) xs ≡ others
left-after [] zero x others is = absurd (cc)
left-after [] (suc n) x others is = absurd (cc)
left-after (y ∷ ys) zero x others is = cc
left-after (y ∷ ys) (suc n) x others is = left-after ys n x others is

-- what holds of one that may be there, and of others
in-front : {X : Type 0} (P : X → Type 0) (found : Option X) (others : List X) → IfSome found P → AllByRecursion P others
    → AllByRecursion P (option_to_list found ++ others)
in-front P None others first rest = rest
in-front P (Some x) others first rest = (first, rest)

-- the visit at a position, where the stop reads near its planned times
at-position : (schedule : Schedule) (asked : Asked) (journey : DatedReading) (recorded : ℤ) (run : Run) (position : ℕ) (row : StopRow) (reading : StopReading)
    → journey.trip.0 < length schedule.table.trips → run_on schedule journey.trip.0 journey.day ≡ Some run → slice_get run.stops position ≡ Some row
    → is_near (planned run.start row) reading ≡ true → IfSome (visit_at asked journey recorded position reading) (IsVisit schedule asked.stop)
at-position schedule asked journey recorded run position row Absent trip_in on_day there near = tt
at-position schedule asked journey recorded run position row Skipped trip_in on_day there near = tt
at-position schedule asked journey recorded run position row (Timed arrival departure place) trip_in on_day there near =
    by ((place.0 == asked.stop.0) && is_within asked arrival departure)
  where
    visit : Visit
    visit = record { arrival = arrival; departure = departure; day = journey.day; trip = journey.trip; position = position; recorded = recorded }

    by : (b : Bool) → IfSome (cond b (Some visit) None) (IsVisit schedule asked.stop)
    by true = record { trip_in = trip_in; run = run; on_day = on_day; call = record { row = row; at = there; near = near } }
    by false = tt

-- the visits at the stops from a position on
among : (schedule : Schedule) (asked : Asked) (journey : DatedReading) (recorded : ℤ) (run : Run) (position : ℕ) (rows : List StopRow) (readings : List StopReading)
    → journey.trip.0 < length schedule.table.trips → run_on schedule journey.trip.0 journey.day ≡ Some run → drop position run.stops ≡ rows
    → are_near run.start rows readings ≡ true
    → AllByRecursion (IsVisit schedule asked.stop) (flat_map (λ one. option_to_list (visit_at asked journey recorded one.0 one.1)) (enumerate_from position readings))
among schedule asked journey recorded run position [] [] trip_in on_day left near = tt
among schedule asked journey recorded run position [] (reading ∷ readings) trip_in on_day left near = absurd (false≢true near)
among schedule asked journey recorded run position (row ∷ rows) [] trip_in on_day left near = absurd (false≢true near)
among schedule asked journey recorded run position (row ∷ rows) (reading ∷ readings) trip_in on_day left near =
    let parts = and_parts (is_near (planned run.start row) reading) (are_near run.start rows readings) near in
    let next : drop (position + 1) run.stops ≡ rows = rw add-one (left-after run.stops position row rows left) in
    in-front (IsVisit schedule asked.stop) (visit_at asked journey recorded position reading) _
    (at-position schedule asked journey recorded run position row reading trip_in on_day (stands-there run.stops position row rows left) parts.0)
    (among schedule asked journey recorded run (position + 1) rows readings trip_in on_day next parts.1)

-- the visits of a journey that fits
among-stops : (schedule : Schedule) (asked : Asked) (journey : DatedReading) (recorded : ℤ) (run : Run) (reading : JourneyReading)
    → journey.trip.0 < length schedule.table.trips → run_on schedule journey.trip.0 journey.day ≡ Some run → fits_trip run reading ≡ true
    → All (IsVisit schedule asked.stop) (visits_among asked journey recorded (stops_of reading))
among-stops schedule asked journey recorded run Cancelled trip_in on_day fits = All-nil (IsVisit schedule asked.stop)
among-stops schedule asked journey recorded run (Stops readings) trip_in on_day fits =
    All-from_recursion (IsVisit schedule asked.stop) _
    (among schedule asked journey recorded run 0 run.stops readings trip_in on_day refl (and_parts (are_near run.start run.stops readings) (keeps_places run readings) fits).0)

pub are_visits : (schedule : Schedule) (asked : Asked) (journey : DatedReading) → FitsSchedule schedule journey.trip.0 journey.day journey.reading
    → All (IsVisit schedule asked.stop) (visits_of asked journey)
are_visits schedule asked journey fits = by journey.recorded
  where
    by : (recorded : Option ℤ) → All (IsVisit schedule asked.stop) (visits_by asked journey recorded)
    by None = All-nil (IsVisit schedule asked.stop)
    by (Some recorded) = among-stops schedule asked journey recorded fits.run journey.reading fits.trip_in fits.on_day fits.fits

-- after visits of it were added, or weren't, all are still visits
pub over_more : (schedule : Schedule) (asked : Asked) (journey : DatedReading) (old new added : List Visit) (done : Bool)
    → FitsSchedule schedule journey.trip.0 journey.day journey.reading → new ≡ cond done (old ++ added) old → added ≡ visits_of asked journey
    → All (IsVisit schedule asked.stop) old → All (IsVisit schedule asked.stop) new
over_more schedule asked journey old new added true fits is same over =
    rw (is, same) (All-append (IsVisit schedule asked.stop) old (visits_of asked journey) over (are_visits schedule asked journey fits))
over_more schedule asked journey old new added false fits is same over = rw is over
