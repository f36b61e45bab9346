-- Where there is no text as the agency, the fields mean no selector.
use Rattle.feed_reading.proofs.Finding.{passed_on}
use Rattle.feed_reading.proofs.plain.tables.SelectorMessage.of_fields.Goals as goal

pub returns-in_err-text : goal.returns-in_err-text
returns-in_err-text c =
    passed_on _ _ _ _ c.from_residual.ensures.1 c.in_err-text.ensures
    (λ selector whole. (selector.agency_id, whole.agency_id))
