-- One message more.
use Rattle.wire_fields.specs.Spelling.{bytes_field}
use Rattle.feed_writing.proofs.SizeLemmas.{appends_both, one_part_more, part_fits}
use Rattle.wire_fields.proofs.Everywhere.{all_more}
use Rattle.feed_writing.proofs.writing.nested.put_messages.Goals as goal

pub put_message-requires-clause-room : goal.put_message-requires-clause-room
put_message-requires-clause-room g c =
    rw c.message-item.is
    (part_fits (λ m. bytes_field c.args.number (g.M.WrittenMessage.written m)) c.as_slice-message-items.result.now
    c.loop-message.message-index c.message-item.result c.args.buf.now c.loop-message.buf c.loop-message-test.true
    c.loop-message.invariant.appends (rw c.as_slice-message-items.ensures.same c.requires.room))

pub loop-message-preserved : goal.loop-message-preserved
loop-message-preserved g c = record {
  appends =
      rw (
        one_part_more (λ m. bytes_field c.args.number (g.M.WrittenMessage.written m))
            c.as_slice-message-items.result.now c.loop-message.message-index c.message-item.result
            c.loop-message-test.true,
        ← c.message-item.is,
      )
      (appends_both c.loop-message.invariant.appends c.put_message.ensures.appends);
  sound = all_more g.M.WrittenMessage.sound c.as_slice-message-items.result.now c.loop-message.message-index
      c.message-item.result c.loop-message-test.true c.loop-message.invariant.sound
      (rw (← c.message-item.is) c.put_message.ensures.sound);
}
