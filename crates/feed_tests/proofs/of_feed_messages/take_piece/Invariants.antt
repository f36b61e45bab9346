-- What was taken, with what is left, is the piece.
use Rattle.std.proofs.Common.{◌≡◌, ◌+◌, length}
use Rattle.feed_tests.proofs.of_feed_messages.take_piece.Given as goal

abbrev pub invariant-loop-rest : goal.invariant-loop-rest
invariant-loop-rest l = l.reader.taken + length l.rest ≡ l.initial.reader.taken + length l.piece

abbrev pub decreases-loop-rest : goal.decreases-loop-rest
decreases-loop-rest l = length l.rest
