-- One piece more.
use Rattle.std.proofs.Common.{arith, ap, sym}
use Rattle.feed_reading.specs.declared.finder.piece.Piece.{Piece}
use Rattle.feed_reading.specs.Pieces.{piece_of}
use Rattle.feed_reading.proofs.PieceWalks.{listed_item, first_tag_here, first_tag_least, first_tag_all}
use Rattle.feed_reading.proofs.finder.pieces.first_tag.Goals as goal

pub loop-piece-init : goal.loop-piece-init
loop-piece-init c =
    record {
      here = (
        piece_of c.index-pieces-0.result,
        listed_item c.args.pieces.now 0 c.index-pieces-0.result c.requires c.index-pieces-0.is,
        ap (λ (p : Piece). p.tag) (sym c.index-pieces-0.is),
      );
      least = λ p none. absurd none;
    }

pub loop-piece-preserved : goal.loop-piece-preserved
loop-piece-preserved c = record {
  here = first_tag_here c.args.pieces.now c.loop-piece.piece-index c.piece-item.result c.loop-piece.first
      c.lesser-first.result c.loop-piece-test.true c.piece-item.is c.lesser-first.ensures c.loop-piece.invariant.here;
  least = first_tag_least c.args.pieces.now c.loop-piece.piece-index c.piece-item.result c.loop-piece.first
      c.lesser-first.result c.loop-piece-test.true c.piece-item.is c.lesser-first.ensures c.loop-piece.invariant.least;
}

pub returns : goal.returns
returns c = first_tag_all c.args.pieces.now c.loop-piece.piece-index c.loop-piece.first (omega arith)
    c.loop-piece.invariant.here c.loop-piece.invariant.least
