-- The faults of its known fields, one after the other.
use Rattle.feed_reading.proofs.FaultOrder.{least_last, least_either}
use Rattle.feed_reading.proofs.finder.tables.TripDescriptorKnownMessage.faults_inside.Goals as goal

pub returns : goal.returns
returns c =
    let back = rw (← c.earlier.ensures) at
    (least_either _ _ c.in_ok-start_date.start_date c.in_ok-route_id.route_id c.in_ok-start_date.ensures
    (least_last _ c.in_ok-route_id.route_id c.in_ok-route_id.ensures)) in
    rw c.earlier-2.ensures (least_either _ _ c.in_ok-trip_id.trip_id c.earlier.result c.in_ok-trip_id.ensures back)
