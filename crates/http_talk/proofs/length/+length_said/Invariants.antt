-- Each call has a header line less.
use Rattle.std.proofs.Common.{length}
use Rattle.http_talk.proofs.length.+length_said.Given as goal

abbrev pub decreases-length_said : goal.decreases-length_said
decreases-length_said l = length l.headers.now
