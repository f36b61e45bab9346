use Rattle.feed_index.proofs.TakeLemmas.{staged_rows}
use Rattle.feed_index.proofs.batch.Batch.into_rows.Goals as goal

pub join-requires-clause-staged : goal.join-requires-clause-staged
join-requires-clause-staged g c = staged_rows g.met.K.Ord.total c.self.inside.pool.spans c.self.inside.rows.items c.self.inside.front c.self.invariant.staged
