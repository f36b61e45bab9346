use Rattle.std.proofs.Common.{◌∙◌, sym, arith}
use Rattle.siri_json.proofs.FormLemmas.{whole_parsed, whole_not_parsed}
use Rattle.siri_json.proofs.forms.whole_named.Goals as goal

pub returns-in-Ok : goal.returns-in-Ok
returns-in-Ok c = whole_parsed c.args.text.now _ c.in-Ok.number c.in-Ok.is c.parse.ensures.value.0 (sym c.are_digits.ensures ∙ c.if-not-are_digits.false) (omega arith)

pub returns-in-Err : goal.returns-in-Err
returns-in-Err c = whole_not_parsed c.args.text.now _ c.in-Err.field-0 c.in-Err.is c.parse.ensures.value.0 (sym c.are_digits.ensures ∙ c.if-not-are_digits.false)
