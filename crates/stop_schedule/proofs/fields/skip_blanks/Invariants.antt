use Rattle.std.proofs.Common.{◌≡◌, length}
use Rattle.stop_schedule.specs.Fields.{skip_blanks}
use Rattle.stop_schedule.proofs.fields.skip_blanks.Given as goal

abbrev pub invariant-loop-bytes : goal.invariant-loop-bytes
invariant-loop-bytes l = skip_blanks l.initial.bytes ≡ skip_blanks l.bytes

abbrev pub decreases-loop-bytes : goal.decreases-loop-bytes
decreases-loop-bytes l = length l.bytes
