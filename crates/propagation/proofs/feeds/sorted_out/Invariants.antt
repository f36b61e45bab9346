use Rattle.propagation.proofs.FeedLemmas.{SortedTo}
use Rattle.propagation.proofs.feeds.sorted_out.Given as goal

abbrev pub invariant-loop-number : goal.invariant-loop-number
invariant-loop-number l = SortedTo l.context l.feed l.number l.given l.passed l.aside
