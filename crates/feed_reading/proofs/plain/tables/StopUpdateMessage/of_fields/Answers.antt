-- Where its properties mean no assigned stop, the fields mean no update.
use Rattle.feed_reading.proofs.Finding.{passed_on}
use Rattle.feed_reading.proofs.plain.tables.StopUpdateMessage.of_fields.Goals as goal

pub returns-in_err-assigned_stop : goal.returns-in_err-assigned_stop
returns-in_err-assigned_stop c =
    passed_on _ _ _ _ c.from_residual-in_err-assigned_stop.ensures.1 c.in_err-assigned_stop.ensures
    (λ update whole. (update.assigned, whole.stop_time_properties))
