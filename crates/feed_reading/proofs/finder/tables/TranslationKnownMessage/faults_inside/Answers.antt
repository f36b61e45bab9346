-- The faults of its known fields, one after the other.
use Rattle.feed_reading.proofs.FaultOrder.{least_last, least_either}
use Rattle.feed_reading.proofs.finder.tables.TranslationKnownMessage.faults_inside.Goals as goal

pub returns : goal.returns
returns c = rw c.earlier.ensures
    (least_either _ _ c.in_ok-text.text c.in_ok-language.language c.in_ok-text.ensures
    (least_last _ c.in_ok-language.language c.in_ok-language.ensures))
