use Rattle.std.proofs.Common.{arith}
use Rattle.std.proofs.lemmas.List.{length-drop}
use Rattle.feed_index.specs.declared.entry.Entry.{Entry}
use Rattle.feed_index.proofs.RisingLemmas.{rising_none}
use Rattle.feed_index.proofs.draft.Draft.over.Goals as goal

pub invariant_of-result : goal.invariant_of-result
invariant_of-result g c = (
  c.requires.within,
  c.soundness_law.ensures.rising,
  rw c.new.ensures.empty (rising_none (λ (one : Entry _ _). one.key) g.K.Ord.cmp),
  rw c.new.ensures.empty (omega (arith, c.len.ensures.value, length-drop c.args.gone c.args.index.now.entries)),
)
