-- the calls so far, whether there are any, and the draws for them
use Rattle.std.proofs.Common.{◌≡◌, ◌++◌}
use Rattle.sample_maker.specs.Deliveries.{calls}
use Rattle.sample_maker.specs.Draws.{after_stops}
use Rattle.sample_maker.specs.Listed.{has_some, listed}
use Rattle.sample_maker.proofs.journeys.put_calls.Given as goal

abbrev pub invariant-loop-place : goal.invariant-loop-place
invariant-loop-place l =
    (l.out ≡ l.fn.out ++ listed (calls l.trip l.held l.place))
    × (l.later ≡ has_some (calls l.trip l.held l.place))
    × (l.draws ≡ after_stops l.held l.place)
