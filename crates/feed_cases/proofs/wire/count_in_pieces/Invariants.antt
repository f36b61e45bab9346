use Rattle.std.proofs.Common.{◌≡◌, ◌+◌, length}
use Rattle.feed_cases.proofs.wire.count_in_pieces.Given as goal

-- what was taken and what is left are all bytes
abbrev pub invariant-loop-rest : goal.invariant-loop-rest
invariant-loop-rest l = l.reader.taken + length l.rest ≡ length l.bytes

abbrev pub decreases-loop-rest : goal.decreases-loop-rest
decreases-loop-rest l = length l.rest
