-- The journal is sound and stands on the disk before each body.
use Rattle.std.proofs.Common.{◌≡◌, true}
use Rattle.delivery_journal.specs.Standing.{StandsOn}
use Rattle.journal_tests.proofs.of_delivery_journal.keep_all.Given as goal

abbrev pub invariant-loop-row : goal.invariant-loop-row
invariant-loop-row g l = record {
  sound : l.journal.is_sound ≡ true;
  stands : StandsOn g.K.Disk.told g.K.Disk.may_leave l.journal l.disk;
}
