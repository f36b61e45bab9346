-- A piece breaks where its bytes do.
use Rattle.std.proofs.Common.{arith}
use Rattle.feed_reading.specs.Pieces.{piece_of}
use Rattle.feed_reading.proofs.PieceWalks.{not_torn, torn_there, break_within}
use Rattle.feed_reading.proofs.finder.pieces.break_of.Goals as goal

pub returns-in-Ok : goal.returns-in-Ok
returns-in-Ok c = let w = c.in-Ok.ensures.whole in not_torn (piece_of c.args.piece.now) w.0 w.1

pub overflow_add-result : goal.overflow_add-result
overflow_add-result c = let inside = c.args.piece.now.within in
    omega (
      arith,
      inside,
      break_within c.args.piece.now.bytes.now c.in-Err.fault.at c.in-Err.fault.kind
          c.in-Err.ensures.broken,
    )

pub returns-in-Err : goal.returns-in-Err
returns-in-Err c = torn_there (piece_of c.args.piece.now) c.in-Err.fault.at c.in-Err.fault.kind c.in-Err.ensures.broken
