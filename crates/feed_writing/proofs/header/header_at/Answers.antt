-- The timestamp has at most six bytes, so all fits.
use Rattle.std.proofs.Common.{◌≡◌, ◌≤◌, ◌+◌, length, arith, ap, sym, ◌∙◌}
use Rattle.wire_fields.specs.Spelling.{varint}
use Rattle.wire_fields.proofs.Varints.{length-varint_6}
use Rattle.feed_writing.proofs.HeaderLemmas.{header-is}
use Rattle.feed_writing.proofs.header.header_at.Goals as goal

pub unwrap-requires-2 : goal.unwrap-requires-2
unwrap-requires-2 c =
    let six : length (varint c.args.timestamp) ≤ 6 = length-varint_6 c.args.timestamp c.requires in
    let same : length c.as_slice-timestamp.result.now ≡ length (varint c.args.timestamp) =
    ap length (c.as_slice-timestamp.ensures.same ∙ c.spell_varint-timestamp.ensures.spelled) in
    let ten : length c.try_extend_from_slice.new.self.items ≡ 10 =
    omega (arith, ap length c.new-bytes.ensures, rw c.unwrap.ensures at c.try_extend_from_slice.ensures.len) in
    let fits : length c.try_extend_from_slice.new.self.items + length c.as_slice-timestamp.result.now ≤ 16 =
    omega arith in
    c.try_extend_from_slice-2.ensures.variant.1 fits

pub returns-clause-written : goal.returns-clause-written
returns-clause-written c =
    rw (
      rw c.unwrap-2.ensures at c.try_extend_from_slice-2.ensures.ok,
      rw c.unwrap.ensures at c.try_extend_from_slice.ensures.ok,
      c.push-2.ensures.items,
      c.push.ensures.items,
      c.new-bytes.ensures,
    )
    (rw (c.as_slice-timestamp.ensures.same, c.spell_varint-timestamp.ensures.spelled)
    (sym (header-is c.args.timestamp c.requires)))

pub returns-clause-short : goal.returns-clause-short
returns-clause-short c =
    let ten : length c.try_extend_from_slice.new.self.items ≡ 10 =
    omega (arith, ap length c.new-bytes.ensures, rw c.unwrap.ensures at c.try_extend_from_slice.ensures.len) in
    let six : length (varint c.args.timestamp) ≤ 6 = length-varint_6 c.args.timestamp c.requires in
    let same : length c.as_slice-timestamp.result.now ≡ length (varint c.args.timestamp) =
    ap length (c.as_slice-timestamp.ensures.same ∙ c.spell_varint-timestamp.ensures.spelled) in
    omega (arith, rw c.unwrap-2.ensures at c.try_extend_from_slice-2.ensures.len)
