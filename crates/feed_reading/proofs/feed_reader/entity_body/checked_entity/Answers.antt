-- A body without a fault means an entity.
use Rattle.feed_reading.specs.Pieces.{piece_of}
use Rattle.feed_reading.proofs.Bodies.{entity_meant}
use Rattle.feed_reading.proofs.feed_reader.entity_body.checked_entity.Goals as goal

pub unreachable-requires : goal.unreachable-requires
unreachable-requires c =
    let meant = entity_meant 0 (piece_of c.args.piece.now) (rw c.in-None.is at c.in_ok-fault.ensures) in
    (rw c.in-Err-Meaningless.field-0-is at c.in-Err-Meaningless.ensures) meant.0 meant.1
