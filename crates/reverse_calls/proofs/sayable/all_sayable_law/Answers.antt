use Rattle.std.proofs.Common.{All, subst, sym}
use Rattle.std.proofs.lemmas.List.{take_all}
use Rattle.std.proofs.lemmas.List.Elements.{All-get_or, All-more}
use Rattle.propagation.specs.Feeds.{IsServable}
use Rattle.siri_calls.specs.Written.Sayable.{IsSayable}
use Rattle.reverse_calls.proofs.sayable.all_sayable_law.Goals as goal

pub loop-one-preserved : goal.loop-one-preserved
loop-one-preserved c = λ servable.
    let P = IsSayable c.args.context.now in
    let own = All-get_or (IsServable c.args.context.now) c.args.journeys.now c.loop-one.one-index c.one-item.result c.loop-one-test.true servable in
    All-more P c.args.journeys.now c.loop-one.one-index c.one-item.result c.loop-one-test.true (c.loop-one.invariant servable)
    (subst P c.one-item.is (c.sayable_law.ensures (subst (IsServable c.args.context.now) (sym c.one-item.is) own)))

pub returns : goal.returns
returns c = λ servable.
    let P = IsSayable c.args.context.now in
    subst (All P) (take_all c.loop-one.one-index c.args.journeys.now c.loop-one-test.false) (c.loop-one.invariant servable)
