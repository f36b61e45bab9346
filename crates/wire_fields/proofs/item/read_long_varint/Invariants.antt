use Rattle.wire_fields.proofs.Scans.{IsScan}
use Rattle.wire_fields.proofs.item.read_long_varint.Given as goal

abbrev pub invariant-loop-i : goal.invariant-loop-i
invariant-loop-i l = IsScan l.bytes l.i l.value
