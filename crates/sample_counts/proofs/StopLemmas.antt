-- A reading that can be served has one reading for each stop of its trip.
use Rattle.std.proofs.Common.{◌≡◌, ◌∙◌, ℤ, true, List, length, Option, Some, None, sym, ap, subst}
use Rattle.std.specs.Prelude.{option_map}
use Rattle.std.proofs.lemmas.Option.{none-some}
use Rattle.service_day.specs.Windows.{start_in}
use Rattle.timetable.specs.declared.stop_row.StopRow.{StopRow}
use Rattle.std.proofs.lemmas.Bool.{and_parts}
use Rattle.journey_model.specs.Places.{keeps_places}
use Rattle.journey_model.specs.Readings.{are_near, fits_trip}
use Rattle.journey_model.specs.Runs.{Run}
use Rattle.journey_model.specs.Schedules.{Schedule, run_from}
use Rattle.journey_model.specs.declared.readings.DatedReading.{DatedReading}
use Rattle.journey_model.specs.declared.readings.JourneyReading.{JourneyReading}
use Rattle.journey_model.specs.declared.readings.JourneyReading.TheVariants.{Stops}
use Rattle.journey_model.specs.declared.readings.StopReading.{StopReading}
use Rattle.journey_model.proofs.NearLemmas.{as_many}
use Rattle.propagation.specs.Feeds.{IsServable}

-- so many as the timetable has
pub stops_read : (schedule : Schedule) (one : DatedReading) (readings : List StopReading) → IsServable schedule one → one.reading ≡ Stops readings
    → length readings ≡ length (schedule.table.stops_of one.trip.0)
stops_read schedule one readings can is =
    as_many can.run.start can.run.stops readings
    (and_parts (are_near can.run.start can.run.stops readings) (keeps_places can.run readings)
    (subst (λ (r : JourneyReading). fits_trip can.run r ≡ true) is can.fits)).0
    ∙ ap (λ (rows : List StopRow). length rows) (by (start_in schedule.window one.day) can.on_day)
  where
    by : (start : Option ℤ) → option_map (run_from schedule.table one.trip.0) start ≡ Some can.run → can.run.stops ≡ schedule.table.stops_of one.trip.0
    by (Some start) found = let same : run_from schedule.table one.trip.0 start ≡ can.run = cc in sym (ap (λ (run : Run). run.stops) same)
    by None found = absurd (none-some can.run found)
