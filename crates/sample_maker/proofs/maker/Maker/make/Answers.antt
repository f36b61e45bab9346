-- No trip has drawn yet.
use Rattle.std.proofs.Common.{arith}
use Rattle.sample_maker.proofs.TripLemmas.{none_yet}
use Rattle.sample_maker.proofs.maker.Maker.make.Goals as goal

pub invariant_of-result : goal.invariant_of-result
invariant_of-result c = record {
  sample = record {
    seed_in = c.requires.seed;
    some_trip = c.requires.some_trip;
    trips_in = c.requires.trips;
    two_stops = c.requires.two_stops;
    stops_in = c.requires.stops;
  };
  given_in = omega arith;
  held_is = none_yet c.args.seed c.args.trips c.args.stops;
}
