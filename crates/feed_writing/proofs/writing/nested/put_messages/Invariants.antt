use Rattle.std.proofs.Common.{take}
use Rattle.std.specs.List.{flat_map, AllByRecursion}
use Rattle.wire_fields.specs.Spelling.{bytes_field}
use Rattle.feed_writing.specs.Sizes.{Appends}
use Rattle.feed_writing.proofs.writing.nested.put_messages.Given as goal

-- the messages so far stand in the buffer
abbrev pub invariant-loop-message : goal.invariant-loop-message
invariant-loop-message g l = record {
  appends : Appends l.initial.buf l.buf
      (flat_map (λ m. bytes_field l.number (g.M.WrittenMessage.written m)) (take l.message-index l.message-items));
  sound : AllByRecursion g.M.WrittenMessage.sound (take l.message-index l.message-items);
}
