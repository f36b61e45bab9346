-- One piece more.
use Rattle.std.proofs.Common.{arith}
use Rattle.std.proofs.lemmas.List.{take_all}
use Rattle.feed_reading.specs.Faults.{IsNotText}
use Rattle.feed_reading.proofs.PieceWalks.{least_step, least_of_none}
use Rattle.feed_reading.proofs.finder.pieces.first_no_text.Goals as goal

pub loop-piece-init : goal.loop-piece-init
loop-piece-init c = least_of_none IsNotText

pub loop-piece-preserved : goal.loop-piece-preserved
loop-piece-preserved c =
    rw c.earlier-found.ensures
    (least_step IsNotText c.args.pieces.now c.loop-piece.piece-index c.piece-item.result c.loop-piece.found
    c.text_fault.result c.loop-piece-test.true c.piece-item.is c.loop-piece.invariant c.text_fault.ensures)

pub returns : goal.returns
returns c = rw (take_all c.loop-piece.piece-index c.args.pieces.now (omega arith)) at c.loop-piece.invariant
