-- A number below 128 is one byte.
use Rattle.std.proofs.Common.{arith}
use Rattle.wire_fields.proofs.Varints.{varint-small, length-varint_1}
use Rattle.wire_fields.proofs.writing.put_varint.Goals as goal

pub put-requires : goal.put-requires
put-requires c = omega (arith, length-varint_1 c.args.value c.if-value-lt128.true)

pub returns-then-value-lt128 : goal.returns-then-value-lt128
returns-then-value-lt128 c = record {
  bytes = rw (varint-small c.args.value c.if-value-lt128.true) c.put.ensures.bytes;
  spare = rw (length-varint_1 c.args.value c.if-value-lt128.true) c.put.ensures.spare;
}
