-- The faults of its known fields, one after the other.
use Rattle.feed_reading.proofs.FaultOrder.{least_last, least_either}
use Rattle.feed_reading.proofs.finder.tables.StopUpdateKnownMessage.faults_inside.Goals as goal

pub returns : goal.returns
returns c =
    let last = rw (← c.earlier.ensures) at
    (least_either _ _ c.in_ok-stop_id.stop_id c.in_ok-properties.properties c.in_ok-stop_id.ensures
    (least_last _ c.in_ok-properties.properties c.in_ok-properties.ensures)) in
    let back = rw (← c.earlier-2.ensures) at
    (least_either _ _ c.in_ok-departure.departure c.earlier.result c.in_ok-departure.ensures last) in
    rw c.earlier-3.ensures (least_either _ _ c.in_ok-arrival.arrival c.earlier-2.result c.in_ok-arrival.ensures back)
