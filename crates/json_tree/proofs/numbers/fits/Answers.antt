use Rattle.std.proofs.Common.{◌≡◌, ◌∙◌, is_some, drop, true, false, sym, ap, arith, take_all, length-drop}
use Rattle.fast_float.specs.Text.{scan}
use Rattle.serde_json.specs.Read.{number_of, number_from}
use Rattle.json_tree.proofs.NumberLemmas.{with_minus, without_minus}
use Rattle.json_tree.proofs.numbers.fits.Goals as goal

pub returns-then-has_minus : goal.returns-then-has_minus
returns-then-has_minus c =
    let text = c.as_bytes-bytes.result.now in
    let parts : c.scan.result ≡ scan (drop 1 text) = c.scan.ensures.parts ∙ ap scan (take_all _ (drop 1 text) (omega (arith, length-drop 1 text))) in
    c.negative_fits.ensures ∙ ap (λ numeral. is_some (number_from true numeral)) parts
    ∙ ap is_some (sym (with_minus text (sym c.if-has_minus.ensures.value)) ∙ ap number_of c.as_bytes-bytes.ensures.value)

pub returns-else-has_minus : goal.returns-else-has_minus
returns-else-has_minus c =
    let text = c.as_bytes-bytes.result.now in
    c.unsigned_fits.ensures ∙ ap (λ numeral. is_some (number_from false numeral)) c.scan-else-has_minus.ensures.parts
    ∙ ap is_some (sym (without_minus text (sym c.if-has_minus.ensures.value)) ∙ ap number_of c.as_bytes-bytes.ensures.value)
