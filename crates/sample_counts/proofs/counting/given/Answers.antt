-- There are so many readings as the trip has stops.
use Rattle.std.proofs.Common.{◌≡◌, ◌≤◌, ap, arith, length, subst, sym}
use Rattle.journey_model.specs.Schedules.{Schedule}
use Rattle.journey_model.specs.declared.readings.JourneyReading.TheVariants.{Stops}
use Rattle.timetable.specs.Limits.{stop_limit}
use Rattle.sample_counts.specs.Steps.{IsWithin}
use Rattle.sample_counts.specs.declared.tally.Tally.{Tally}
use Rattle.sample_counts.proofs.StopLemmas.{stops_read}
use Rattle.sample_counts.proofs.TallyLemmas.{tally_within}
use Rattle.sample_counts.proofs.counting.given.Goals as goal

pub returns-in-Stops-clause-few : goal.returns-in-Stops-clause-few
returns-in-Stops-clause-few c =
    let is : c.args.one.now.reading ≡ Stops c.as_slice.result.now = rw c.as_slice.ensures.same c.in-Stops.is in
    let same = stops_read c.args.context.now c.args.one.now c.as_slice.result.now c.requires is in
    let stops = subst (λ (lent : Schedule). c.stops_of-stops.result.now ≡ lent.table.stops_of c.args.one.now.trip.0) c.context.view_is c.stops_of-stops.ensures.value in
    let value = ap length stops in
    let few : length c.as_slice.result.now ≤ stop_limit = omega arith in
    subst (λ (t : Tally). IsWithin stop_limit t) (sym c.tally_of.ensures) (tally_within c.as_slice.result.now stop_limit few)
