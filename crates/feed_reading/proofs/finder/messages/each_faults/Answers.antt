-- The pieces are those that stand in the message.
use Rattle.feed_reading.specs.Faults.{Inside, InSome}
use Rattle.feed_reading.specs.Pieces.{Listed, InEach}
use Rattle.feed_reading.proofs.FaultOrder.{least_same}
use Rattle.feed_reading.proofs.PieceSets.{in_same, same_turned}
use Rattle.feed_reading.proofs.finder.messages.each_faults.Goals as goal

pub returns : goal.returns
returns g c =
    let set = c.in_ok-inner.ensures in
    let Has = InEach g.K.KnownMessage.known c.args.end in
    least_same (InSome (Listed c.as_slice.result.now) Has)
    (InSome (Inside c.args.number (Listed c.args.pieces.now)) Has)
    (rw c.as_slice.ensures.same (in_same Has (same_turned set))) (rw c.as_slice.ensures.same (in_same Has set))
    c.in_ok-found.found c.in_ok-found.ensures
