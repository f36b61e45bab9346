use Rattle.std.proofs.Common.{sym, arith, ◌∙◌}
use Rattle.service_day.proofs.FormLemmas.{has_form-other_length, has_form-end, no_form, next_form}
use Rattle.service_day.proofs.digits.has_form.Goals as goal

pub returns-then-text-form-clause-value : goal.returns-then-text-form-clause-value
returns-then-text-form-clause-value c = sym (has_form-other_length c.args.form.now c.args.text.now c.if-text-form.true)

pub returns-then-not-is_at-clause-value : goal.returns-then-not-is_at-clause-value
returns-then-not-is_at-clause-value c =
    sym (no_form c.args.form.now c.args.text.now c.loop-i.i (omega arith) (omega arith) c.loop-i.invariant.left (sym c.is_at.ensures ∙ c.if-not-is_at.true))

pub loop-i-preserved : goal.loop-i-preserved
loop-i-preserved c = record {
  same_length = c.loop-i.invariant.same_length;
  left = next_form c.args.form.now c.args.text.now c.loop-i.i (omega arith) (omega arith) c.loop-i.invariant.left (sym c.is_at.ensures ∙ c.if-not-is_at.false);
}

pub returns-clause-value : goal.returns-clause-value
returns-clause-value c =
    sym (c.loop-i.invariant.left ∙ has_form-end c.args.form.now c.args.text.now c.loop-i.i (omega arith) (omega arith))
