use Rattle.std.proofs.Common.{length}
use Rattle.feed_reading.proofs.LongEntities.{LongIn}
use Rattle.feed_reading.proofs.finder.lengths.too_long.Given as goal

-- what is too long stands in the rest, and not at its front
abbrev pub invariant-loop-field : goal.invariant-loop-field
invariant-loop-field l = LongIn l.bytes l.rest

abbrev pub decreases-loop-field : goal.decreases-loop-field
decreases-loop-field l = length l.rest.bytes.now
