-- One message more.
use Rattle.std.proofs.Common.{◌<◌, length, arith}
use Rattle.wire_fields.specs.Spelling.{bytes_field}
use Rattle.feed_writing.proofs.SizeLemmas.{one_part_more}
use Rattle.feed_writing.proofs.writing.nested.messages_size.Goals as goal

pub loop-message-preserved : goal.loop-message-preserved
loop-message-preserved g c =
    let within : c.loop-message.message-index < length c.as_slice-message-items.result.now = omega arith in
    rw (
      one_part_more (λ m. bytes_field c.args.number (g.M.WrittenMessage.written m))
          c.as_slice-message-items.result.now c.loop-message.message-index c.message-item.result within,
      ← c.message-item.is,
    )
    (c.plus-size.ensures _ _ c.loop-message.invariant c.message_size.ensures)
