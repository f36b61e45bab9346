-- What is left without its empty lines is the whole without them.
use Rattle.std.proofs.Common.{◌≡◌, length}
use Rattle.http_talk.specs.Ends as ends
use Rattle.http_talk.proofs.ends.skip_empty.Given as goal

abbrev pub invariant-loop-rest : goal.invariant-loop-rest
invariant-loop-rest l = ends.skip_empty l.rest ≡ ends.skip_empty l.bytes

abbrev pub decreases-loop-rest : goal.decreases-loop-rest
decreases-loop-rest l = length l.rest
