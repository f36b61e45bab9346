-- The faults of its known fields, one after the other.
use Rattle.feed_reading.proofs.FaultOrder.{least_last, least_either}
use Rattle.feed_reading.proofs.finder.tables.AlertKnownMessage.faults_inside.Goals as goal

pub returns : goal.returns
returns c =
    let last = rw (← c.earlier.ensures) at
    (least_either _ _ c.in_ok-header.header c.in_ok-description.description c.in_ok-header.ensures
    (least_last _ c.in_ok-description.description c.in_ok-description.ensures)) in
    let back = rw (← c.earlier-2.ensures) at
    (least_either _ _ c.in_ok-selectors.selectors c.earlier.result c.in_ok-selectors.ensures last) in
    rw c.earlier-3.ensures (least_either _ _ c.in_ok-periods.periods c.earlier-2.result c.in_ok-periods.ensures back)
