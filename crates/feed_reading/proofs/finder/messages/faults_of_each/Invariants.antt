use Rattle.std.proofs.Common.{take}
use Rattle.feed_reading.specs.Faults.{InSome, IsLeast}
use Rattle.feed_reading.specs.Pieces.{Listed, InEach}
use Rattle.feed_reading.proofs.finder.messages.faults_of_each.Given as goal

-- the least fault of the messages so far
abbrev pub invariant-loop-piece : goal.invariant-loop-piece
invariant-loop-piece g l =
    IsLeast (InSome (Listed (take l.piece-index l.inner)) (InEach g.K.KnownMessage.known l.end)) l.found
