use Rattle.delivery_journal.proofs.CrashLemmas.{IsCounted}
use Rattle.delivery_journal.proofs.crash.count_images.Given as goal

abbrev pub invariant-loop-call : goal.invariant-loop-call
invariant-loop-call l = IsCounted l.calls l.call-index l.count
