-- The delivery after those that were given.
use Rattle.std.proofs.Common.{arith}
use Rattle.sample_maker.proofs.TripLemmas.{held_next, text_next}
use Rattle.sample_maker.proofs.maker.Maker.next_delivery.Goals as goal

pub invariant_of-self : goal.invariant_of-self
invariant_of-self c =
    held_next c.self.inside.seed c.self.inside.trips c.self.inside.stops c.self.inside.given c.self.inside.held _ _ c.self.invariant (omega arith)
    c.min-count.ensures c.in_ok-text.ensures.after

pub returns-clause-given : goal.returns-clause-given
returns-clause-given c =
    rw (← c.self.view_is)
    (text_next c.self.inside.seed c.self.inside.trips c.self.inside.stops c.self.inside.given c.self.inside.held _ _ c.self.invariant (omega arith)
    c.min-count.ensures c.in_ok-text.ensures.text)
