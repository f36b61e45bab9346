use Rattle.std.proofs.Common.{length}
use Rattle.wire_fields.proofs.Skips.{IsSkip}
use Rattle.wire_fields.proofs.reading.skip_group_apart.Given as goal

abbrev pub invariant-loop-open : goal.invariant-loop-open
invariant-loop-open l = IsSkip l.number l.bytes l.open l.rest

abbrev pub decreases-loop-open : goal.decreases-loop-open
decreases-loop-open l = length l.rest
