-- A message without pieces has no fault.
use Rattle.std.proofs.Common.{eqb-true, sym}
use Rattle.feed_reading.specs.Faults.{InSome, IsTorn, HasFaultIn}
use Rattle.feed_reading.specs.Pieces.{Listed}
use Rattle.feed_reading.proofs.FaultOrder.{least_either}
use Rattle.feed_reading.proofs.MessageFaults.{no_pieces}
use Rattle.feed_reading.proofs.finder.messages.message_faults.Goals as goal

pub returns-then-is_empty : goal.returns-then-is_empty
returns-then-is_empty g c =
    no_pieces g.K.KnownMessage.known c.args.end c.args.pieces.now (eqb-true _ _ (sym c.if-is_empty.ensures))

pub returns : goal.returns
returns g c =
    rw c.earlier.ensures
    (least_either (InSome (Listed c.args.pieces.now) IsTorn)
    (HasFaultIn g.K.KnownMessage.known (Listed c.args.pieces.now) c.args.end) c.first_break.result
    c.in_ok-inner.inner c.first_break.ensures c.in_ok-inner.ensures)
