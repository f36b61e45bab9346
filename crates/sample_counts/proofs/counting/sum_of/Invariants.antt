-- the trips so far are counted, and the readings left say what is said of the others
use Rattle.std.proofs.Common.{◌≡◌, ◌*◌, ℕ, Option}
use Rattle.std.specs.List.{AllByRecursion}
use Rattle.journey_model.specs.declared.readings.JourneyReading.{JourneyReading}
use Rattle.propagation.specs.Feeds.{IsServable}
use Rattle.sample_maker.specs.Pieces.{all_below}
use Rattle.timetable.specs.Limits.{stop_limit}
use Rattle.sample_counts.specs.Steps.{AreSaid, IsWithin, stops_said, tally}
use Rattle.sample_counts.proofs.counting.sum_of.Given as goal

abbrev pub invariant-loop-trip : goal.invariant-loop-trip
invariant-loop-trip l = record {
  counted : (said : ℕ → Option JourneyReading) → AreSaid said 0 l.journeys
      → (l.sum ≡ tally (all_below (λ trip. stops_said l.context trip (said trip)) l.trip)) × AreSaid said l.trip l.rest;
  servable : AllByRecursion (IsServable l.context) l.rest;
  few : IsWithin (stop_limit * l.trip) l.sum;
}
