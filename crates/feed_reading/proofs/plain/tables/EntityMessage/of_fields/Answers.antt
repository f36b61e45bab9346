-- Where there is no id, the fields mean no entity.
use Rattle.feed_reading.proofs.Finding.{passed_on}
use Rattle.feed_reading.proofs.plain.tables.EntityMessage.of_fields.Goals as goal

pub returns-in_err-required_text : goal.returns-in_err-required_text
returns-in_err-required_text c =
    passed_on _ _ _ _ c.from_residual.ensures.1 c.in_err-required_text.ensures (λ entity whole. (entity.id, whole.id))
