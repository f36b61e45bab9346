use Rattle.std.proofs.Common.{sym, subst}
use Rattle.propagation.specs.Folding.{Folded, StandsFor, feed_with}
use Rattle.propagation.proofs.FoldLemmas.{late_sorted}
use Rattle.propagation.proofs.folding.ReadingFold.finish.Goals as goal

pub returns : goal.returns
returns c =
    let schedule = c.args.context.now in
    let sorted = c.in_ok-sorted_late.ensures in
    record {
      reads = λ entities stands. c.reading_of.ensures schedule (feed_with c.args.head.now entities)
          (late_sorted schedule c.args.head.now (record { passed = c.self.inside.passed; said = c.self.inside.said.items })
          entities c.in_ok-sorted_late.field-0
          (subst (λ (fold : Folded). StandsFor schedule fold entities) (sym c.self.view_is) stands)
          sorted.last sorted.taken sorted.passed sorted.aside);
    }
