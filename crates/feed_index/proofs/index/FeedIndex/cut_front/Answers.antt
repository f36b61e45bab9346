use Rattle.std.proofs.Common.{arith}
use Rattle.feed_index.proofs.SetLemmas.{sorted_cut}
use Rattle.feed_index.proofs.index.FeedIndex.cut_front.Goals as goal

pub invariant_of-self : goal.invariant_of-self
invariant_of-self g c = record {
  sorted = sorted_cut g.met.K.Ord.total c.self.inside.pool.spans c.cut.new.pool.spans c.self.inside.rows.items c.cut.new.rows.items _ c.self.invariant.sorted c.cut.ensures.entries;
  held = rw c.settle.ensures.spans c.cut.ensures.held;
  bounded = c.settle.ensures.bounded;
  rows_room = omega arith;
  spans_room = omega arith;
}
