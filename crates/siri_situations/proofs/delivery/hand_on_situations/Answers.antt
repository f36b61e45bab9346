use Rattle.json_tree.specs.Trees.{view}
use Rattle.siri_json.proofs.DeliveryLemmas.{body_delivery, body_read, body_refused}
use Rattle.siri_situations.specs.Situations.{verdicts}
use Rattle.siri_situations.proofs.delivery.hand_on_situations.Goals as goal

pub returns-in-Ok : goal.returns-in-Ok
returns-in-Ok g c = λ first begins.
    body_delivery _ (verdicts c.args.context.now) c.args.body.now (view c.in-Ok.root) _
    (body_read c.args.body.now _ c.in-Ok.ensures.text c.in-Ok.ensures.tree) (c.take_tree.ensures first begins)

pub returns : goal.returns
returns g c = λ first begins.
    rw c.from.ensures (body_refused _ (verdicts c.args.context.now) c.args.body.now c.in-Err.fault c.in-Err.ensures.fault)
