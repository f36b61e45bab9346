-- The faults of its known fields, one after the other.
use Rattle.feed_reading.proofs.FaultOrder.{least_last, least_either}
use Rattle.feed_reading.proofs.finder.tables.FeedKnownMessage.faults_inside.Goals as goal

pub returns : goal.returns
returns c = rw c.earlier.ensures
    (least_either _ _ c.in_ok-header.header c.in_ok-entities.entities c.in_ok-header.ensures
    (least_last _ c.in_ok-entities.entities c.in_ok-entities.ensures))
