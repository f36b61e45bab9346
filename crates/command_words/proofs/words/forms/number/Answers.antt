use Rattle.std.proofs.Common.{◌≡◌, refl, sym, ◌∙◌, true}
use Rattle.command_words.specs.Forms.{is_number}
use Rattle.command_words.proofs.FormLemmas.{number_parsed}
use Rattle.command_words.proofs.words.forms.number.Goals as goal

pub returns-then-is_number : goal.returns-then-is_number
returns-then-is_number c =
    let is : is_number c.as_str-text.result.now ≡ true = sym c.is_number.ensures ∙ c.if-is_number.true in
    rw (c.ok.ensures.value, number_parsed c.as_str-text.result.now c.parse.result c.parse.ensures.value.0 is, ← c.as_str-text.ensures.same, is) refl
