-- Each call has a header line less.
use Rattle.std.proofs.Common.{length}
use Rattle.http_talk.proofs.length.+is_agreed.Given as goal

abbrev pub decreases-is_agreed : goal.decreases-is_agreed
decreases-is_agreed l = length l.headers.now
