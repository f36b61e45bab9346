use Rattle.std.proofs.Common.{◌≡◌, length}
use Rattle.stop_schedule.specs.Fields.{drop_blanks}
use Rattle.stop_schedule.proofs.fields.drop_blanks.Given as goal

abbrev pub invariant-loop-bytes : goal.invariant-loop-bytes
invariant-loop-bytes l = drop_blanks l.initial.bytes ≡ drop_blanks l.bytes

abbrev pub decreases-loop-bytes : goal.decreases-loop-bytes
decreases-loop-bytes l = length l.bytes
