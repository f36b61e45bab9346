use Rattle.std.proofs.Common.{◌≡◌, ◌-◌, ◌≤◌, List, drop}
use Rattle.delivery_journal.specs.Disk.{WhereTold, ReadsOnly}
use Rattle.delivery_journal.specs.Kept.{KeptBody, found_from}
use Rattle.delivery_journal.proofs.BlockLemmas.{onto}
use Rattle.delivery_journal.proofs.reading.find_end.Given as goal

abbrev pub invariant-loop-at : goal.invariant-loop-at
invariant-loop-at g l = record {
  leads : WhereTold (g.K.Disk.told l.fn.disk) (λ file. (bodies : List KeptBody) × (found_from 0 8 (drop 8 file) ≡ onto bodies (found_from 0 l.at (drop l.at file))));
  reads : ReadsOnly g.K.Disk.told g.K.Disk.may_leave g.K.Disk.clock g.K.Disk.left_since l.fn.disk l.disk;
  faults : g.K.Disk.faults l.fn.disk ≤ g.K.Disk.faults l.disk;
}

abbrev pub decreases-loop-at : goal.decreases-loop-at
decreases-loop-at g l = l.len - l.at
