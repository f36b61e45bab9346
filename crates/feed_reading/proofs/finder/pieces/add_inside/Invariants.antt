use Rattle.std.proofs.Common.{length}
use Rattle.feed_reading.specs.Pieces.{GoesOn}
use Rattle.feed_reading.proofs.finder.pieces.add_inside.Given as goal

-- the list so far, with what stands in the rest, is the whole
abbrev pub invariant-loop-field : goal.invariant-loop-field
invariant-loop-field l = GoesOn l.number l.initial.list l.piece l.list l.rest

abbrev pub decreases-loop-field : goal.decreases-loop-field
decreases-loop-field l = length l.rest.bytes.now
