use Rattle.std.proofs.Common.{◌≡◌, ◌+◌, ◌*◌, ◌/◌, drop, arith}
use Rattle.service_day.specs.Moments.{tenths}
use Rattle.service_day.proofs.MomentLemmas.{tenths-next, tenths-end}
use Rattle.service_day.proofs.moments.nanoseconds.Goals as goal

-- what the fraction comes to, from the digit that is read on
total : (c : goal.After-saturating_sub) → c.loop-c.nanos + (c.saturating_sub.result * c.loop-c.unit + tenths (c.loop-c.unit / 10) (drop (c.loop-c.c-index + 1) c.args.digits.now)) ≡ tenths 100000000 c.args.digits.now
total c =
    let next = rw (← c.saturating_sub.ensures) at (tenths-next c.loop-c.unit c.args.digits.now c.loop-c.c-index c.loop-c-test.true) in
    rw (← next) c.loop-c.invariant

pub overflow_mul-nanos : goal.overflow_mul-nanos
overflow_mul-nanos c = omega (arith, total c, c.requires)

pub overflow_add-nanos : goal.overflow_add-nanos
overflow_add-nanos c = omega (arith, total c, c.requires)

pub loop-c-preserved : goal.loop-c-preserved
loop-c-preserved c = omega (arith, total c)

pub returns : goal.returns
returns c =
    omega (arith, c.loop-c.invariant, tenths-end c.loop-c.unit c.args.digits.now c.loop-c.c-index c.loop-c-test.false)
