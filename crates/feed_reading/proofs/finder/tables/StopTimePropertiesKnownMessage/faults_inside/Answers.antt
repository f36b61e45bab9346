-- The faults of its known fields, one after the other.
use Rattle.feed_reading.proofs.FaultOrder.{least_last}
use Rattle.feed_reading.proofs.finder.tables.StopTimePropertiesKnownMessage.faults_inside.Goals as goal

pub returns : goal.returns
returns c = least_last _ c.in_ok-assigned.assigned c.in_ok-assigned.ensures
