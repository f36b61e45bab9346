-- The parts are written one after the other.
use Rattle.feed_writing.proofs.SizeLemmas.{appends_both}
use Rattle.feed_writing.proofs.writing.messages.StopUpdateWrittenMessage.put.Goals as goal

pub returns-clause-appends : goal.returns-clause-appends
returns-clause-appends c =
    let sequence = c.put_optional_number.ensures.appends in
    let events = appends_both
    (appends_both (rw c.wide_unsigned.ensures.same at sequence) c.put_optional_message.ensures.appends)
    c.put_optional_message-2.ensures.appends in
    let texts = appends_both (appends_both events c.put_optional_text.ensures.appends) c.put_relation.ensures.appends in
    appends_both texts c.put_optional_message-3.ensures.appends
