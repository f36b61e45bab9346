-- One piece more.
use Rattle.feed_reading.specs.Pieces.{NoneStands}
use Rattle.wire_fields.proofs.Everywhere.{all_more}
use Rattle.feed_reading.proofs.PieceWalks.{some_inside}
use Rattle.feed_reading.proofs.finder.pieces.any_holds.Goals as goal

pub returns-then-holds : goal.returns-then-holds
returns-then-holds c =
    some_inside c.args.number c.args.pieces.now c.loop-piece.piece-index c.piece-item.result c.loop-piece-test.true
    c.piece-item.is c.if-holds.ensures

pub loop-piece-preserved : goal.loop-piece-preserved
loop-piece-preserved c =
    all_more (NoneStands c.args.number) c.args.pieces.now c.loop-piece.piece-index c.piece-item.result
    c.loop-piece-test.true c.loop-piece.invariant (rw (← c.piece-item.is) c.if-holds.ensures)
