-- A text in several languages is the list of its translations.
use Rattle.std.proofs.Common.{List, refl}
use Rattle.std.specs.Prelude.{Some, option_map}
use Rattle.gw_base.specs.declared.messages.Translation.{Translation}
use Rattle.wire_fields.specs.Grammar.{WireField}
use Rattle.feed_reading.specs.declared.plain.tables.TranslatedString.{TranslatedString}
use Rattle.feed_reading.specs.Tables.{OfTranslatedString}
use Rattle.feed_reading.proofs.Finding.{passed_on, joined_along}
use Rattle.feed_reading.proofs.plain.tables.translations.Goals as goal

abbrev Wrapped : List WireField → TranslatedString → Type 0
Wrapped fields text = OfTranslatedString fields text.translations

abbrev wrapped : List Translation → TranslatedString
wrapped translations = record { translations = translations }

abbrev unwrapped : TranslatedString → List Translation
unwrapped text = text.translations

pub returns-in_err-translations : goal.returns-in_err-translations
returns-in_err-translations c =
    passed_on _ _ _ _ c.from_residual.ensures.1 c.in_err-translations.ensures
    (λ _ whole. (
      option_map wrapped whole.found,
      (
        whole.message.0,
        joined_along OfTranslatedString Wrapped wrapped (λ fields text h. h) _ whole.found
            whole.message.1,
      ),
    ))

pub returns-in-Some : goal.returns-in-Some
returns-in-Some c = record {
  found = Some c.in-Some.field-0.translations;
  message = (
    c.in_ok-translations.ensures.0,
    joined_along Wrapped OfTranslatedString unwrapped (λ fields text h. h) _ (Some c.in-Some.field-0)
        (rw c.in-Some.is at c.in_ok-translations.ensures.1),
  );
  same = refl;
}
