use Rattle.std.proofs.Common.{◌≡◌, ◌∙◌, ◌<◌, length, drop, false, refl, arith, length-drop}
use Rattle.std.specs.Str.{is_utf8}
use Rattle.stop_schedule.specs.Faults.{all_text}
use Rattle.stop_schedule.specs.Layout.{columns}
use Rattle.stop_schedule.specs.Sheet.{nth}
use Rattle.stop_schedule.proofs.FaultLemmas.{first-no-text}
use Rattle.stop_schedule.proofs.checks.row_fault.Goals as goal

pub returns-in_default : goal.returns-in_default
returns-in_default c =
    let i = c.loop-i.i in
    let items = c.columns-column-items.result.now in
    let row = c.args.sheet.now.row in
    let some : 0 < length (drop i items) = simp length-drop (omega arith) in
    let no_text : is_utf8 (nth i row) ≡ false = rw (← c.field-field.ensures.value) c.in_default.ensures.cases in
    let none : all_text 0 (columns c.args.file) row ≡ false =
    c.loop-i.invariant.texts ∙ first-no-text i (drop i items) row some no_text in
    rw none refl
