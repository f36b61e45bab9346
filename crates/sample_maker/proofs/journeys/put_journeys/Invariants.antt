-- the journeys so far, and what the generator holds after them
use Rattle.std.proofs.Common.{◌≡◌, ◌++◌}
use Rattle.sample_maker.specs.Deliveries.{journeys}
use Rattle.sample_maker.specs.Draws.{after_trips}
use Rattle.sample_maker.specs.Listed.{listed}
use Rattle.sample_maker.proofs.journeys.put_journeys.Given as goal

abbrev pub invariant-loop-n : goal.invariant-loop-n
invariant-loop-n l =
    (l.out ≡ l.fn.out ++ listed (journeys l.stops l.from l.fn.held l.n)) × (l.after ≡ after_trips l.stops l.fn.held l.n)
