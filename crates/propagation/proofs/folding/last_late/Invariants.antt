use Rattle.std.proofs.Common.{vec_len}
use Rattle.propagation.specs.Folding.{bare_feed}
use Rattle.propagation.proofs.FoldLemmas.{LateTo}
use Rattle.propagation.proofs.folding.last_late.Given as goal

abbrev pub invariant-loop-number : goal.invariant-loop-number
invariant-loop-number l =
    LateTo l.context (bare_feed l.timestamp) l.fn.said.items l.left.items l.seen.keys l.last.items l.aside.items

abbrev pub decreases-loop-number : goal.decreases-loop-number
decreases-loop-number l = vec_len l.left
