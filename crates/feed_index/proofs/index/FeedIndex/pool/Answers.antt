use Rattle.feed_index.proofs.HeldLemmas.{spans_of_entries}
use Rattle.feed_index.proofs.index.FeedIndex.pool.Goals as goal

pub returns-clause-spans : goal.returns-clause-spans
returns-clause-spans g c = rw (← c.self.view_is) (spans_of_entries c.self.inside.rows.items c.self.inside.pool.spans c.self.invariant.held)
