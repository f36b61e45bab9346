-- The parts are written one after the other.
use Rattle.feed_writing.proofs.SizeLemmas.{appends_both}
use Rattle.feed_writing.proofs.writing.messages.TripDescriptorWrittenMessage.put.Goals as goal

pub returns-clause-appends : goal.returns-clause-appends
returns-clause-appends c =
    appends_both (appends_both
    (appends_both c.put_optional_text.ensures.appends c.put_optional_text-2.ensures.appends)
    c.put_enum.ensures.appends) c.put_optional_text-3.ensures.appends
