-- One message more.
use Rattle.std.proofs.Common.{arith}
use Rattle.std.proofs.lemmas.List.{take_all}
use Rattle.feed_reading.specs.Pieces.{InEach}
use Rattle.feed_reading.proofs.PieceWalks.{least_step, least_of_none}
use Rattle.feed_reading.proofs.finder.messages.faults_of_each.Goals as goal

pub loop-piece-init : goal.loop-piece-init
loop-piece-init g c = least_of_none (InEach g.K.KnownMessage.known c.args.end)

pub loop-piece-preserved : goal.loop-piece-preserved
loop-piece-preserved g c =
    let known = g.K.KnownMessage.known in
    rw c.earlier-found.ensures
    (least_step (InEach known c.args.end) c.args.inner.now c.loop-piece.piece-index c.piece-item.result
    c.loop-piece.found c.in_ok-piece_faults.field-0 c.loop-piece-test.true c.piece-item.is c.loop-piece.invariant
    c.in_ok-piece_faults.ensures)

pub returns : goal.returns
returns g c = rw (take_all c.loop-piece.piece-index c.args.inner.now (omega arith)) at c.loop-piece.invariant
