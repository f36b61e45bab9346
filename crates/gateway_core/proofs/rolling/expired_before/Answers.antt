-- Each entry that is of a day before goes.
use Rattle.std.proofs.Common.{◌∙◌, sym, arith}
use Rattle.gateway_core.proofs.RollingLemmas.{one_more_gone}
use Rattle.gateway_core.proofs.rolling.expired_before.Goals as goal

pub loop-i-preserved : goal.loop-i-preserved
loop-i-preserved c =
    one_more_gone c.args.first c.args.journeys.now.entries c.loop-i.i (omega arith) (λ other. sym (c.is_before.ensures other) ∙ c.if-not-is_before.false) c.loop-i.invariant
