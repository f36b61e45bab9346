use Rattle.std.proofs.Common.{refl}
use Rattle.gw_base.specs.declared.member.Member.{Member}
use Rattle.json_tree.specs.Trees.{view}
use Rattle.siri_json.proofs.DeliveryLemmas.{items_end, items_step}
use Rattle.siri_json.specs.Frame.{repeated_under}
use Rattle.siri_situations.specs.Situations.{verdict}
use Rattle.siri_situations.proofs.delivery.take_group.Goals as goal

pub loop-tree-preserved : goal.loop-tree-preserved
loop-tree-preserved g c = λ first earlier has.
    let schedule = c.args.context.now in
    items_step (g.T.TakesSituations.has_taken schedule first c.take_item.new.taker) (λ tree. verdict schedule (view tree)) earlier
    c.repeated_under-trees.result.now c.loop-tree.tree-index c.tree-item.result _ c.loop-tree-test.true c.tree-item.is refl
    (c.in_ok-take_item.ensures first _ (c.loop-tree.invariant first earlier has))

pub returns : goal.returns
returns g c = λ first earlier has.
    items_end (g.T.TakesSituations.has_taken c.args.context.now first c.loop-tree.taker) (verdict c.args.context.now) view c.repeated_under-trees.result.now
    (repeated_under Member.PtSituationElement (view c.args.group.now)) earlier c.loop-tree.tree-index c.loop-tree-test.false
    c.repeated_under-trees.ensures (c.loop-tree.invariant first earlier has)
