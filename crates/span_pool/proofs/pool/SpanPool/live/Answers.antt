use Rattle.std.proofs.Common.{arith, ap, length}
use Rattle.span_pool.proofs.RegionLemmas.{region_fits}
use Rattle.span_pool.proofs.pool.SpanPool.live.Goals as goal

-- the region is one block of bytes
pub returns-clause-fits : goal.returns-clause-fits
returns-clause-fits c =
    let fits = region_fits _ _ _ c.self.invariant.1 in
    let same = ap length c.as_slice-region.ensures.value in
    omega arith
