-- The piece is the one of its list.
use Rattle.feed_reading.proofs.MessageFaults.{one_message}
use Rattle.feed_reading.proofs.finder.messages.piece_faults.Goals as goal

pub returns : goal.returns
returns g c = one_message g.K.KnownMessage.known c.args.end c.args.piece.now c.in_ok-found.found
    (rw c.from_ref-one.ensures.value at c.in_ok-found.ensures)
