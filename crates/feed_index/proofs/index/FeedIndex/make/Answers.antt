use Rattle.std.proofs.Common.{refl, arith}
use Rattle.feed_index.proofs.SetLemmas.{sorted_none}
use Rattle.feed_index.proofs.index.FeedIndex.make.Goals as goal

pub invariant_of-result : goal.invariant_of-result
invariant_of-result g c = rw (c.new.ensures.items, c.make.ensures.empty) (record {
  sorted = sorted_none _ _ g.K.Ord.cmp;
  held = record { once = λ slot. refl; total_is = refl };
  bounded = omega arith;
  rows_room = omega arith;
  spans_room = omega arith;
})
