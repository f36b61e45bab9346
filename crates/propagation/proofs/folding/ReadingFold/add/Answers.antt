use Rattle.std.proofs.Common.{◌∙◌, sym, subst, ap, refl}
use Rattle.propagation.specs.Folding.{Folded, StandsFor}
use Rattle.propagation.proofs.FoldLemmas.{on_ok, stands_held, stands_passed}
use Rattle.propagation.proofs.folding.ReadingFold.add.Goals as goal

pub returns-in-Some-clause-adds : goal.returns-in-Some-clause-adds
returns-in-Some-clause-adds c = λ entities stands index.
    on_ok c.hold.result (λ holds.
    stands_held c.args.context.now
    (record { passed = c.self.inside.passed; said = c.self.inside.said.items })
    (record { passed = c.self.inside.passed; said = c.hold.new.said.items })
    entities c.args.index c.args.entity c.in-Some.said
    (subst (λ (fold : Folded). StandsFor c.args.context.now fold entities) (sym c.self.view_is) stands) index
    (sym c.in-Some.is ∙ c.in_ok-said.ensures) refl holds) c.hold.ensures.holds

pub returns-in-None-clause-adds : goal.returns-in-None-clause-adds
returns-in-None-clause-adds c = λ entities stands index.
    on_ok c.pass.result (λ counts.
    stands_passed c.args.context.now c.args.self.now c.pass.new.self
    entities c.args.entity stands
    (sym c.in-None.is ∙ c.in_ok-said.ensures)
    (ap (λ (fold : Folded). fold.passed) counts)
    (ap (λ (fold : Folded). fold.said) counts)) c.pass.ensures.counts
