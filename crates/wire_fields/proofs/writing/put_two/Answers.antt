-- Both bytes.
use Rattle.std.proofs.Common.{length, ap, arith}
use Rattle.wire_fields.proofs.Varints.{varint_2}
use Rattle.wire_fields.proofs.writing.put_two.Goals as goal

pub put_slice-requires : goal.put_slice-requires
put_slice-requires c = omega (arith, ap length (varint_2 c.args.value c.requires.least c.requires.most), c.requires.room)

pub returns : goal.returns
returns c = rw (varint_2 c.args.value c.requires.least c.requires.most) c.put_slice.ensures
