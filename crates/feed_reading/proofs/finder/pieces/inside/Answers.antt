-- One piece more.
use Rattle.feed_reading.proofs.PieceWalks.{inside_step}
use Rattle.feed_reading.proofs.finder.pieces.inside.Goals as goal

pub loop-piece-preserved : goal.loop-piece-preserved
loop-piece-preserved c =
    inside_step c.args.number c.args.pieces.now c.loop-piece.list c.add_inside.new.list c.loop-piece.piece-index
    c.piece-item.result c.loop-piece-test.true c.piece-item.is c.loop-piece.invariant c.in_ok-add_inside.ensures
