-- The faults of its known fields, one after the other.
use Rattle.feed_reading.proofs.FaultOrder.{least_last, least_either}
use Rattle.feed_reading.proofs.finder.tables.TripUpdateKnownMessage.faults_inside.Goals as goal

pub returns : goal.returns
returns c = rw c.earlier.ensures
    (least_either _ _ c.in_ok-trip.trip c.in_ok-updates.updates c.in_ok-trip.ensures
    (least_last _ c.in_ok-updates.updates c.in_ok-updates.ensures))
