-- What was taken, with what is left, is all bytes.
use Rattle.std.proofs.Common.{◌≡◌, ◌+◌, length}
use Rattle.feed_cases.proofs.pieces.by_pieces.Given as goal

abbrev pub invariant-loop-rest : goal.invariant-loop-rest
invariant-loop-rest l = l.reader.taken + length l.rest ≡ length l.bytes

abbrev pub decreases-loop-rest : goal.decreases-loop-rest
decreases-loop-rest l = length l.rest
