use Rattle.std.proofs.Common.{◌∙◌, ap, map}
use Rattle.json_tree.specs.Trees.{view}
use Rattle.siri_json.proofs.DeliveryLemmas.{items_end, items_step, mapped}
use Rattle.siri_calls.specs.Frame.{item_place, items_below}
use Rattle.siri_calls.specs.Shown.{place_of}
use Rattle.siri_calls.specs.Verdicts.{verdict}
use Rattle.siri_calls.proofs.delivery.take_below.Goals as goal

pub loop-tree-preserved : goal.loop-tree-preserved
loop-tree-preserved g c = λ first earlier has.
    let schedule = c.args.context.now in
    items_step (g.T.TakesJourneys.has_taken schedule first c.take_item.new.taker) (λ tree. verdict schedule (item_place (place_of c.args.frame.now) (view tree)))
    earlier c.repeated_under-trees.result.now c.loop-tree.tree-index c.tree-item.result _ c.loop-tree-test.true c.tree-item.is
    (ap (verdict schedule) c.item_place-place.ensures)
    (c.in_ok-take_item.ensures first _ (c.loop-tree.invariant first earlier has))

pub returns : goal.returns
returns g c = λ first earlier has.
    let frame = place_of c.args.frame.now in
    let trees = c.repeated_under-trees.result.now in
    items_end (g.T.TakesJourneys.has_taken c.args.context.now first c.loop-tree.taker) (verdict c.args.context.now) (λ tree. item_place frame (view tree)) trees (items_below frame)
    earlier c.loop-tree.tree-index
    c.loop-tree-test.false (mapped (item_place frame) view trees ∙ ap (map (item_place frame)) c.repeated_under-trees.ensures)
    (c.loop-tree.invariant first earlier has)
