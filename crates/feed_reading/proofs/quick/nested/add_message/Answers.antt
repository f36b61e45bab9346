-- The field holds a message, or none.
use Rattle.std.proofs.Common.{sym}
use Rattle.wire_fields.specs.Seen.{field_of}
use Rattle.feed_reading.proofs.OneMore.{messages_new, messages_same}
use Rattle.feed_reading.proofs.quick.nested.add_message.Goals as goal

pub returns-in_ok-push-in-Some : goal.returns-in_ok-push-in-Some
returns-in_ok-push-in-Some g c = λ fields known.
    rw c.in_ok-push-in-Some.ensures.added
    (messages_new g.M.QuickMessage.table c.args.number fields (field_of c.args.field.now) c.args.messages.now
    c.in-Some.body.now c.in_ok-message-in-Some.message (sym c.in-Some.ensures) c.in_ok-message-in-Some.ensures
    known)

pub returns-in-None : goal.returns-in-None
returns-in-None g c =
    λ fields known. messages_same g.M.QuickMessage.table c.args.number fields (field_of c.args.field.now)
    c.args.messages.now (sym c.in-None.ensures) known
