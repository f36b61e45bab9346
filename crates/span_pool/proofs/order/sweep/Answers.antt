-- One slot more is kept, or passed over where no span has it.
use Rattle.std.proofs.Common.{◌<◌, ℕ, sym, ◌∙◌, length, get_or, arith}
use Rattle.span_pool.proofs.PlaceLemmas.{row_nobodys}
use Rattle.span_pool.proofs.OrderLemmas.{swept_skip, swept_take}
use Rattle.span_pool.proofs.order.sweep.Goals as goal
use Rattle.span_pool.proofs.order.sweep.Goals.{then-is_taken, else-is_taken}

pub loop-i-preserved : goal.loop-i-preserved
loop-i-preserved c =
    elim c.if-is_taken.branch [
      | then-is_taken w ↦ rw (w.order-is, w.kept-is, w.swap.ensures.after) (swept_take c.args.places.now _ _ _ c.args.used _ _ c.loop-i-test.true c.loop-i.invariant)
      | else-is_taken w ↦
          let slot : ℕ = get_or c.loop-i.order c.loop-i.i 0 in
          let inside : slot < length c.args.places.now = c.loop-i.invariant.is_order.below c.loop-i.i (omega (arith, c.loop-i.invariant.is_order.in_order)) in
          rw (w.order-is, w.kept-is) (swept_skip c.args.places.now _ _ _ c.args.used _ _ c.loop-i-test.true (row_nobodys c.args.places.now slot (record { start = 0; end = 0 }) inside (sym c.is_taken.ensures.value ∙ w.if-is_taken.false)) c.loop-i.invariant)
    ]
