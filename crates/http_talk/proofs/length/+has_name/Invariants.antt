-- Each call has a header line less.
use Rattle.std.proofs.Common.{length}
use Rattle.http_talk.proofs.length.+has_name.Given as goal

abbrev pub decreases-has_name : goal.decreases-has_name
decreases-has_name l = length l.headers.now
