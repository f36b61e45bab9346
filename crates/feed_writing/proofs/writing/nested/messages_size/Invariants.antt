use Rattle.std.proofs.Common.{take}
use Rattle.std.specs.List.{flat_map}
use Rattle.wire_fields.specs.Spelling.{bytes_field}
use Rattle.feed_writing.specs.Sizes.{Counts}
use Rattle.feed_writing.proofs.writing.nested.messages_size.Given as goal

-- the size so far is that of the messages so far
abbrev pub invariant-loop-message : goal.invariant-loop-message
invariant-loop-message g l =
    Counts l.size (flat_map (λ m. bytes_field l.number (g.M.WrittenMessage.written m))
    (take l.message-index l.message-items))
