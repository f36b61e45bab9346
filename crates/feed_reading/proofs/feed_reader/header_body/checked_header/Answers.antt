-- A body without a fault says something.
use Rattle.feed_reading.specs.Pieces.{piece_of}
use Rattle.feed_reading.proofs.Bodies.{head_meant}
use Rattle.feed_reading.proofs.feed_reader.header_body.checked_header.Goals as goal

pub unreachable-requires : goal.unreachable-requires
unreachable-requires c =
    let meant = head_meant (piece_of c.args.piece.now) (rw c.in-None.is at c.in_ok-fault.ensures) in
    (rw c.in-Err-Meaningless.field-0-is at c.in-Err-Meaningless.ensures) meant.0 meant.1
