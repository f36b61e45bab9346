use Rattle.std.proofs.Common.{sym, ◌∙◌, arith}
use Rattle.service_day.proofs.MomentLemmas.{digits_len-digit, digits_len-other, digits_len-end}
use Rattle.service_day.proofs.moments.digits_len.Goals as goal

pub returns-then-not-is_ascii_digit-clause-value : goal.returns-then-not-is_ascii_digit-clause-value
returns-then-not-is_ascii_digit-clause-value c =
    omega (arith, c.loop-i.invariant, digits_len-other c.args.text.now c.loop-i.i c.loop-i-test.true (sym c.is_ascii_digit.ensures.value ∙ c.if-not-is_ascii_digit.true))

pub loop-i-preserved : goal.loop-i-preserved
loop-i-preserved c =
    omega (arith, c.loop-i.invariant, digits_len-digit c.args.text.now c.loop-i.i c.loop-i-test.true (sym c.is_ascii_digit.ensures.value ∙ c.if-not-is_ascii_digit.false))

pub returns-clause-value : goal.returns-clause-value
returns-clause-value c =
    omega (arith, c.loop-i.invariant, digits_len-end c.args.text.now c.loop-i.i c.loop-i-test.false)
