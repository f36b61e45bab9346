use Rattle.feed_index.proofs.RisingLemmas.{rising_drop}
use Rattle.feed_index.specs.declared.row.Row.{Row}
use Rattle.feed_index.proofs.index.FeedIndex.find_after.Goals as goal

pub value_in-requires : goal.value_in-requires
value_in-requires g c = record { sorted = rw (c.split_at.ensures.back, c.deref.ensures.value) (rising_drop (λ (row : Row _ _). row.key) g.met.K.Ord.total c.args.n c.self.inside.rows.items c.self.invariant.sorted) }
