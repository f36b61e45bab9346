use Rattle.std.proofs.Common.{take}
use Rattle.feed_reading.specs.Faults.{Inside}
use Rattle.feed_reading.specs.Found.{SameSet}
use Rattle.feed_reading.specs.Pieces.{Listed}
use Rattle.feed_reading.proofs.finder.pieces.inside.Given as goal

-- the list so far is what stands in the pieces so far
abbrev pub invariant-loop-piece : goal.invariant-loop-piece
invariant-loop-piece l = SameSet (Inside l.number (Listed (take l.piece-index l.pieces))) (Listed l.list)
