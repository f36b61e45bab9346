-- What is written can be written.
use Rattle.std.proofs.Common.{◌<◌, ◌^◌, length, arith, subst}
use Rattle.feed_writing.specs.Sound.{IsSoundEntity}
use Rattle.feed_writing.specs.Written.{feed_entity, written}
use Rattle.feed_writing.proofs.writing.entity_bytes.Goals as goal

pub returns-clause-writable : goal.returns-clause-writable
returns-clause-writable c =
    let one = c.of-measured.result.entity.now in
    let short : length (written one) < 2 ^ 64 =
    omega (
      arith,
      (c.bytes_size-size.ensures (feed_entity one) c.size-fields.ensures).same,
      c.put_sized.ensures.appends.room,
      c.in_ok-buf.ensures.room,
    ) in
    record {
      sound = subst IsSoundEntity c.of-measured.ensures c.put_sized.ensures.sound;
      counted = subst (λ entity. length (written entity) < 2 ^ 64) c.of-measured.ensures short;
    }
