use Rattle.std.proofs.Common.{refl, arith}
use Rattle.feed_index.specs.declared.entry.Entry.{Entry}
use Rattle.feed_index.proofs.RisingLemmas.{rising_none}
use Rattle.feed_index.proofs.batch.Batch.new.Goals as goal

pub invariant_of-result : goal.invariant_of-result
invariant_of-result g c = rw (c.new.ensures.items, c.make.ensures.empty) (record {
  held = record { once = λ slot. refl; total_is = refl };
  staged = record { front_rises = rising_none (λ (one : Entry _ _). one.key) g.K.Ord.cmp; back_rises = rising_none (λ (one : Entry _ _). one.key) g.K.Ord.cmp; apart = tt };
  within = omega arith;
  bounded = omega arith;
})
