-- The faults of its known fields, one after the other.
use Rattle.feed_reading.proofs.FaultOrder.{least_last, least_either}
use Rattle.feed_reading.proofs.finder.tables.EntityKnownMessage.faults_inside.Goals as goal

pub returns : goal.returns
returns c =
    let back = rw (← c.earlier.ensures) at
    (least_either _ _ c.in_ok-trip_update.trip_update c.in_ok-alert.alert c.in_ok-trip_update.ensures
    (least_last _ c.in_ok-alert.alert c.in_ok-alert.ensures)) in
    rw c.earlier-2.ensures (least_either _ _ c.in_ok-id.id c.earlier.result c.in_ok-id.ensures back)
