use Rattle.std.proofs.Common.{arith}
use Rattle.feed_index.proofs.GatherLemmas.{length_gathered}
use Rattle.feed_index.proofs.batch.Batch.len.Goals as goal

pub returns : goal.returns
returns g c = record { value = rw (← c.self.view_is) (omega (arith, length_gathered g.met.K.Ord.total c.self.inside.rows.items c.self.inside.pool c.self.inside.front c.self.invariant)) }
