use Rattle.std.proofs.Common.{[], length}
use Rattle.feed_reading.specs.Pieces.{GoesOn}
use Rattle.feed_reading.proofs.finder.pieces.holds.Given as goal

-- what stands in the piece stands in what is left of it
abbrev pub invariant-loop-field : goal.invariant-loop-field
invariant-loop-field l = GoesOn l.number [] l.piece [] l.rest

abbrev pub decreases-loop-field : goal.decreases-loop-field
decreases-loop-field l = length l.rest.bytes.now
