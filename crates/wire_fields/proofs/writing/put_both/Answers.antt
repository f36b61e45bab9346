-- Two numbers below 128 are one byte each.
use Rattle.wire_fields.proofs.Varints.{varint-small}
use Rattle.wire_fields.proofs.writing.put_both.Goals as goal

pub put_slice-requires : goal.put_slice-requires
put_slice-requires c = rw (varint-small c.args.first c.if-first-lt128.true, varint-small c.args.second c.if-second-lt128.true) at c.requires

pub returns-then-second-lt128-clause-bytes : goal.returns-then-second-lt128-clause-bytes
returns-then-second-lt128-clause-bytes c = rw (varint-small c.args.first c.if-first-lt128.true, varint-small c.args.second c.if-second-lt128.true) c.put_slice.ensures.bytes

pub returns-then-second-lt128-clause-spare : goal.returns-then-second-lt128-clause-spare
returns-then-second-lt128-clause-spare c = rw (varint-small c.args.first c.if-first-lt128.true, varint-small c.args.second c.if-second-lt128.true) c.put_slice.ensures.spare
