-- A record that can be served fits the schedule as a reading.
use Rattle.std.proofs.Common.{◌≡◌, []}
use Rattle.std.proofs.lemmas.List.Elements.{All-cons, All-nil}
use Rattle.journey_model.specs.Schedules.{FitsSchedule, Schedule}
use Rattle.journey_model.specs.declared.readings.DatedReading.{DatedReading}
use Rattle.journey_model.specs.declared.readings.JourneyRecord.{JourneyRecord}
use Rattle.siri_calls.specs.Servable.{IsServable}
use Rattle.library_cases.proofs.written.written.Goals as goal

fits : (schedule : Schedule) (one : JourneyRecord) (two : DatedReading) → IsServable schedule one
    → (two.trip ≡ one.trip) × (two.day ≡ one.day) × (two.reading ≡ one.reading)
    → FitsSchedule schedule two.trip.0 two.day two.reading
fits schedule one two served same =
    rw (same.0, same.1, same.2) served.fits_schedule

pub write_delivery-requires-in-Some : goal.write_delivery-requires-in-Some
write_delivery-requires-in-Some c =
    let schedule = c.args.context.now in
    let served = c.requires c.in-Some.one c.in-Some.is in
    All-cons (λ (one : DatedReading). FitsSchedule schedule one.trip.0 one.day one.reading) c.dated.result []
    (fits schedule c.in-Some.one c.dated.result served c.dated.ensures.same)
    (All-nil (λ (one : DatedReading). FitsSchedule schedule one.trip.0 one.day one.reading))
