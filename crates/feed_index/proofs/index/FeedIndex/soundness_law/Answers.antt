use Rattle.feed_index.proofs.SetLemmas.{rising_entries}
use Rattle.feed_index.proofs.index.FeedIndex.soundness_law.Goals as goal

pub returns-clause-rising : goal.returns-clause-rising
returns-clause-rising g c = rw (← c.self.view_is) (rising_entries g.met.K.Ord.total c.self.inside.pool.spans c.self.inside.rows.items c.self.invariant.sorted)
