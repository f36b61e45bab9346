-- An entity that is too long, or a fault of the feed as a message of one piece.
use Rattle.std.proofs.Common.{length}
use Rattle.feed_reading.specs.Known.{feed_known}
use Rattle.feed_reading.specs.Faults.{whole, IsTooLong}
use Rattle.feed_reading.specs.Pieces.{InEach}
use Rattle.feed_reading.proofs.FaultOrder.{least_either}
use Rattle.feed_reading.proofs.finder.first_fault.Goals as goal

pub returns : goal.returns
returns c =
    let bytes = c.args.bytes.now in
    rw c.earlier.ensures
    (least_either (IsTooLong bytes) (InEach feed_known (length bytes) (whole bytes)) c.too_long.result
    c.in_ok-message.message c.too_long.ensures c.in_ok-message.ensures)
