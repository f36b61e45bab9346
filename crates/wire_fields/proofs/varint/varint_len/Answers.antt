use Rattle.std.proofs.Common.{sym, arith}
use Rattle.wire_fields.proofs.Varints.{length-varint_1, length-varint_bit}
use Rattle.wire_fields.proofs.varint.varint_len.Goals as goal

pub returns-then-value-eq0-clause-counted : goal.returns-then-value-eq0-clause-counted
returns-then-value-eq0-clause-counted c = sym (length-varint_1 c.args.value (omega arith))

pub returns-clause-counted : goal.returns-clause-counted
returns-clause-counted c = sym (length-varint_bit c.ilog2.result c.args.value c.ilog2.ensures.bound c.ilog2.ensures.power_le c.ilog2.ensures.next_power_gt)
