use Rattle.std.proofs.Common.{◌≡◌, ◌∙◌, true, ap, sym, is_some}
use Rattle.stop_schedule.specs.Forms.{seconds, sequence}
use Rattle.stop_schedule.proofs.DigitLemmas.{seconds-is-text, sequence-is-text}
use Rattle.stop_schedule.proofs.checks.has_digits.Goals as goal

pub returns-in-Sequence-clause-text : goal.returns-in-Sequence-clause-text
returns-in-Sequence-clause-text c = λ some.
    let is : is_some (sequence c.args.field.now) ≡ true =
    ap is_some (sym c.sequence.ensures) ∙ sym c.is_some.ensures ∙ some in
    sequence-is-text c.args.field.now is

pub returns-in-Time-clause-text : goal.returns-in-Time-clause-text
returns-in-Time-clause-text c = λ some.
    let is : is_some (seconds c.args.field.now) ≡ true =
    ap is_some (sym c.seconds.ensures.value) ∙ sym c.is_some-in-Time.ensures ∙ some in
    seconds-is-text c.args.field.now is
