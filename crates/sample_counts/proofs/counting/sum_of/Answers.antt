-- The trips so far, one trip more, and all of them.
use Rattle.std.proofs.Common.{◌≡◌, ◌+◌, ℕ, List, Option, arith, length, subst, sym}
use Rattle.journey_model.specs.Schedules.{Schedule}
use Rattle.journey_model.specs.declared.readings.DatedReading.{DatedReading}
use Rattle.journey_model.specs.declared.readings.JourneyReading.{JourneyReading}
use Rattle.sample_maker.specs.Pieces.{all_below}
use Rattle.sample_counts.specs.Steps.{AreSaid, plus, stops_said, tally}
use Rattle.sample_counts.proofs.Merging.{after_said, next_said}
use Rattle.sample_counts.proofs.TallyLemmas.{tally_more, tally_none}
use Rattle.sample_counts.proofs.counting.sum_of.Goals as goal

pub loop-trip-init : goal.loop-trip-init
loop-trip-init c = record {
  counted = λ said h. (tally_none (λ trip. stops_said c.args.context.now trip (said trip)), h);
  servable = c.requires;
  few = record { skipped = omega arith; absent = omega arith; timed = omega arith };
}

pub loop-trip-preserved : goal.loop-trip-preserved
loop-trip-preserved c = record {
  counted = λ said h.
      let held = c.loop-trip.invariant.counted said h in (
        tally_more (λ trip. stops_said c.args.context.now trip (said trip)) c.loop-trip.trip c.loop-trip.sum c.add_trip-rest.new.sum held.0
            (subst (λ (o : Option JourneyReading). c.add_trip-rest.new.sum ≡ plus c.loop-trip.sum (tally (stops_said c.args.context.now c.loop-trip.trip o)))
            (sym (next_said said c.loop-trip.trip c.loop-trip.rest.now held.1)) c.add_trip-rest.ensures.sum),
        subst (λ (rest : List DatedReading). AreSaid said (c.loop-trip.trip + 1) rest) (sym c.add_trip-rest.ensures.rest) (after_said said c.loop-trip.trip c.loop-trip.rest.now held.1),
      );
  servable = c.add_trip-rest.ensures.servable;
  few = c.add_trip-rest.ensures.few;
}

pub returns : goal.returns
returns c = λ said h.
    let held = c.loop-trip.invariant.counted said h in
    let all : c.loop-trip.trip ≡ length c.args.context.now.table.trips =
    subst (λ (lent : Schedule). c.loop-trip.trip ≡ length lent.table.trips) c.context.view_is (omega arith) in
    subst (λ (n : ℕ). c.loop-trip.sum ≡ tally (all_below (λ trip. stops_said c.args.context.now trip (said trip)) n)) all held.0
