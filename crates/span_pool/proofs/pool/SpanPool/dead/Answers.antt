use Rattle.std.proofs.Common.{arith}
use Rattle.span_pool.proofs.RegionLemmas.{region_fits}
use Rattle.span_pool.proofs.pool.SpanPool.dead.Goals as goal

pub overflow_sub-result : goal.overflow_sub-result
overflow_sub-result c = omega (arith, region_fits _ _ _ c.self.invariant.1, c.len.ensures)
