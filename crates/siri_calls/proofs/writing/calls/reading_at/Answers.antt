-- A reading at a position of the trip.
use Rattle.std.proofs.Common.{◌≡◌, ◌<◌, true, length, arith, ap, subst}
use Rattle.std.proofs.lemmas.Option.{slice_get-get_or}
use Rattle.journey_model.specs.Readings.{fits_trip}
use Rattle.journey_model.specs.TripRuns.{run_over}
use Rattle.journey_model.specs.declared.readings.JourneyReading.{JourneyReading}
use Rattle.journey_model.specs.declared.readings.JourneyReading.TheVariants.{Stops}
use Rattle.journey_model.specs.declared.readings.StopReading.TheVariants.{Absent}
use Rattle.journey_model.proofs.NearLemmas.{as_many}
use Rattle.siri_calls.proofs.Written.WrittenTimes.{fits_near, skipped_there}
use Rattle.siri_calls.proofs.writing.calls.reading_at.Goals as goal

pub bounds-as_slice-position : goal.bounds-as_slice-position
bounds-as_slice-position c =
    let run = run_over c.args.run.now in
    let readings = c.in-Stops.readings in
    let fits = subst (λ (r : JourneyReading). fits_trip run r ≡ true) c.in-Stops.is c.requires.fits in
    let near = fits_near run (Stops readings) fits in
    omega (arith, as_many run.start run.stops readings near, ap length c.as_slice.ensures.same)

pub returns-in-Cancelled : goal.returns-in-Cancelled
returns-in-Cancelled c = rw c.in-Cancelled.is (skipped_there c.args.run.now.dated.stops.now c.args.position c.requires.within)

pub returns-in-Stops : goal.returns-in-Stops
returns-in-Stops c =
    let run = run_over c.args.run.now in
    let readings = c.in-Stops.readings in
    let fits = subst (λ (r : JourneyReading). fits_trip run r ≡ true) c.in-Stops.is c.requires.fits in
    let near = fits_near run (Stops readings) fits in
    let within : c.args.position < length readings = omega (arith, as_many run.start run.stops readings near) in
    rw (c.in-Stops.is, c.as_slice.ensures.same) (slice_get-get_or readings c.args.position Absent within)
