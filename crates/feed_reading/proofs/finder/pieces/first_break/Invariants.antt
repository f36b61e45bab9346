use Rattle.std.proofs.Common.{take}
use Rattle.feed_reading.specs.Faults.{InSome, IsTorn, IsLeast}
use Rattle.feed_reading.specs.Pieces.{Listed}
use Rattle.feed_reading.proofs.finder.pieces.first_break.Given as goal

-- the least fault of the pieces so far
abbrev pub invariant-loop-piece : goal.invariant-loop-piece
invariant-loop-piece l = IsLeast (InSome (Listed (take l.piece-index l.pieces)) IsTorn) l.found
