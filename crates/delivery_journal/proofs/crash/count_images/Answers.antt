use Rattle.delivery_journal.proofs.CrashLemmas.{count_first, count_more, count_last}
use Rattle.delivery_journal.proofs.crash.count_images.Goals as goal

pub loop-call-init : goal.loop-call-init
loop-call-init c = count_first c.args.calls.now

pub loop-call-preserved : goal.loop-call-preserved
loop-call-preserved c = count_more c.args.calls.now c.loop-call.call-index _ c.loop-call-test.true c.loop-call.count c.count_after-count.result
    c.count_after-count.ensures c.loop-call.invariant

pub returns : goal.returns
returns c = count_last c.args.calls.now c.loop-call.call-index c.loop-call.count c.loop-call-test.false c.loop-call.invariant
