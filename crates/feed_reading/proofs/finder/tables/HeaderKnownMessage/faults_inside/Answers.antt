-- The faults of its known fields, one after the other.
use Rattle.feed_reading.proofs.FaultOrder.{least_last}
use Rattle.feed_reading.proofs.finder.tables.HeaderKnownMessage.faults_inside.Goals as goal

pub returns : goal.returns
returns c = least_last _ c.in_ok-version.version c.in_ok-version.ensures
