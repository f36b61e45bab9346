use Rattle.std.proofs.Common.{◌∙◌, option_and_then, drop, false, sym, ap}
use Rattle.fast_float.specs.Text.{scan}
use Rattle.serde_json.specs.Find.{as_u64}
use Rattle.serde_json.specs.Read.{number_of, number_from}
use Rattle.json_tree.proofs.NumberLemmas.{with_minus, without_minus, never_unsigned, as_whole}
use Rattle.json_tree.proofs.numbers.whole_number.Goals as goal

pub returns-then-has_minus : goal.returns-then-has_minus
returns-then-has_minus c =
    let text = c.as_bytes-bytes.result.now in
    record { value = sym (ap (option_and_then as_u64) (sym (ap number_of c.as_bytes-bytes.ensures.value) ∙ with_minus text (sym c.if-has_minus.ensures.value)) ∙ never_unsigned (scan (drop 1 text))) ∙ as_whole (number_of c.args.text.now) }

pub returns-else-has_minus : goal.returns-else-has_minus
returns-else-has_minus c =
    let text = c.as_bytes-bytes.result.now in
    record {
      value = c.unsigned.ensures
          ∙ ap (λ numeral. option_and_then as_u64 (number_from false numeral)) c.scan.ensures.parts
          ∙ ap (option_and_then as_u64) (sym (without_minus text (sym c.if-has_minus.ensures.value)) ∙ ap number_of c.as_bytes-bytes.ensures.value) ∙ as_whole (number_of c.args.text.now);
    }
