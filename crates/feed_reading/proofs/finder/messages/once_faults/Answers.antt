-- The message's fault, or that it is missing.
use Rattle.feed_reading.specs.Faults.{Inside, IsMissing}
use Rattle.feed_reading.specs.Pieces.{Listed, InMessage}
use Rattle.feed_reading.proofs.FaultOrder.{least_either, least_same}
use Rattle.feed_reading.proofs.PieceSets.{same_turned}
use Rattle.feed_reading.proofs.MessageFaults.{message_same}
use Rattle.feed_reading.proofs.finder.messages.once_faults.Goals as goal

pub returns : goal.returns
returns g c =
    let set = c.in_ok-inner.ensures in
    let known = g.K.KnownMessage.known in
    let inner =
    least_same (InMessage known (Listed c.as_slice.result.now) c.args.end)
    (InMessage known (Inside c.args.number (Listed c.args.pieces.now)) c.args.end)
    (rw c.as_slice.ensures.same (message_same known c.args.end (same_turned set)))
    (rw c.as_slice.ensures.same (message_same known c.args.end set)) c.in_ok-inner-2.inner
    c.in_ok-inner-2.ensures in
    rw c.earlier.ensures
    (least_either (InMessage known (Inside c.args.number (Listed c.args.pieces.now)) c.args.end)
    (IsMissing c.args.number c.args.name (Listed c.args.pieces.now) c.args.end) c.in_ok-inner-2.inner
    c.missing.result inner c.missing.ensures)
