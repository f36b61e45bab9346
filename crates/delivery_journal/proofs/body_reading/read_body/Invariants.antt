use Rattle.std.proofs.Common.{◌≡◌, ◌-◌, ◌≤◌, take, drop, length}
use Rattle.delivery_journal.specs.Disk.{WhereTold, ReadsOnly}
use Rattle.delivery_journal.proofs.body_reading.read_body.Given as goal

abbrev pub invariant-loop-done : goal.invariant-loop-done
invariant-loop-done g l = record {
  body : WhereTold (g.K.Disk.told l.fn.disk) (λ file. l.body ≡ take l.done (drop l.at file));
  room : length l.room ≡ 4096;
  within : l.done ≤ l.count;
  reads : ReadsOnly g.K.Disk.told g.K.Disk.may_leave g.K.Disk.clock g.K.Disk.left_since l.fn.disk l.disk;
  faults : g.K.Disk.faults l.fn.disk ≤ g.K.Disk.faults l.disk;
}

abbrev pub decreases-loop-done : goal.decreases-loop-done
decreases-loop-done g l = l.count - l.done
