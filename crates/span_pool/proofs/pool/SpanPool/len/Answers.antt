use Rattle.std.proofs.Common.{arith}
use Rattle.span_pool.proofs.RegionLemmas.{region_fits}
use Rattle.span_pool.proofs.pool.SpanPool.len.Goals as goal

pub returns : goal.returns
returns c = rw (← c.self.view_is) (record { value = omega (arith, region_fits _ _ _ c.self.invariant.1, c.self.invariant.1.total_is, c.len.ensures) })
