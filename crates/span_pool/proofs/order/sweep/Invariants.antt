use Rattle.std.proofs.Common.{length}
use Rattle.span_pool.proofs.OrderLemmas.{IsSwept}
use Rattle.span_pool.proofs.order.sweep.Given as goal

abbrev pub invariant-loop-i : goal.invariant-loop-i
invariant-loop-i l = IsSwept l.places (length l.places) l.initial.order l.order l.used l.kept l.i
