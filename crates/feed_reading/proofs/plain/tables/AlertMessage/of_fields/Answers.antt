-- Where the texts mean no translations, the fields mean no alert.
use Rattle.feed_reading.proofs.Finding.{passed_on}
use Rattle.feed_reading.proofs.plain.tables.AlertMessage.of_fields.Goals as goal

pub returns-in_err-translations : goal.returns-in_err-translations
returns-in_err-translations c =
    passed_on _ _ _ _ c.from_residual-in_err-translations.ensures.1 c.in_err-translations.ensures
    (λ alert whole. (alert.header, whole.header_text))

pub returns-in_err-translations-2 : goal.returns-in_err-translations-2
returns-in_err-translations-2 c =
    passed_on _ _ _ _ c.from_residual-in_err-translations-2.ensures.1 c.in_err-translations-2.ensures
    (λ alert whole. (alert.description, whole.description_text))
