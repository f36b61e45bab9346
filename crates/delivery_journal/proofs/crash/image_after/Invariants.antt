use Rattle.std.proofs.Common.{◌≡◌, length, drop}
use Rattle.std.specs.List.{fold}
use Rattle.delivery_journal.specs.DiskInMemory.{done_calls, total_count}
use Rattle.delivery_journal.specs.CrashSteps.{next_crash}
use Rattle.delivery_journal.proofs.crash.image_after.Given as goal

abbrev pub invariant-loop-call : goal.invariant-loop-call
invariant-loop-call l = record {
  folds : fold (next_crash l.number l.fill) (record { file = l.start; image = l.start; left = l.number }) (done_calls l.calls l.bytes)
      ≡ fold (next_crash l.number l.fill) l.crash (done_calls (drop l.call-index l.calls) l.rest);
  count : total_count (drop l.call-index l.calls) ≡ length l.rest;
}
