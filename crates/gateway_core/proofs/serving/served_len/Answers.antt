-- One entry more.
use Rattle.std.proofs.Common.{arith}
use Rattle.gateway_core.proofs.LengthLemmas.{one_counted}
use Rattle.gateway_core.proofs.serving.served_len.Goals as goal

pub loop-i-preserved : goal.loop-i-preserved
loop-i-preserved c =
    let more = one_counted c.args.situations.now.entries c.loop-i.i _ c.at.ensures.entry in
    omega (arith, more)
