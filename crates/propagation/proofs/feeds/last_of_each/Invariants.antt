use Rattle.std.proofs.Common.{vec_len}
use Rattle.propagation.proofs.FeedLemmas.{LastTo}
use Rattle.propagation.proofs.feeds.last_of_each.Given as goal

abbrev pub invariant-loop-reading : goal.invariant-loop-reading
invariant-loop-reading l = LastTo l.fn.given l.left.items l.seen.keys l.last.items

abbrev pub decreases-loop-reading : goal.decreases-loop-reading
decreases-loop-reading l = vec_len l.left
