-- Each round has a piece less.
use Rattle.std.proofs.Common.{length}
use Rattle.server_tests.proofs.of_http_talk.in_pieces.Given as goal

abbrev pub decreases-loop-rest : goal.decreases-loop-rest
decreases-loop-rest l = length l.rest
