-- The journal stands on the disk before each body.
use Rattle.delivery_journal.specs.Standing.{StandsOn}
use Rattle.journal_tests.proofs.of_delivery_journal.gives.Given as goal

abbrev pub invariant-loop-row : goal.invariant-loop-row
invariant-loop-row g l = StandsOn g.K.Disk.told g.K.Disk.may_leave l.journal l.disk
