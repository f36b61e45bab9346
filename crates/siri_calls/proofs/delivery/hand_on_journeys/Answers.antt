-- What the kept members say is what the whole tree says.
use Rattle.std.proofs.Common.{◌∙◌, ap, subst}
use Rattle.json_tree.specs.Trees.{data_of}
use Rattle.siri_json.proofs.DeliveryLemmas.{body_delivery, body_read, body_refused}
use Rattle.siri_json.specs.Deliveries.{ReadsTree}
use Rattle.siri_calls.specs.Verdicts.{verdicts}
use Rattle.siri_calls.proofs.KeptLemmas.{verdicts-kept}
use Rattle.siri_calls.proofs.delivery.hand_on_journeys.Goals as goal

pub returns-in-Ok : goal.returns-in-Ok
returns-in-Ok g c = λ first begins.
    let schedule = c.args.context.now in
    let whole = c.in-Ok.ensures.tree.0 in
    let same = ap (λ tree. verdicts schedule (data_of tree)) c.in-Ok.ensures.tree.2 ∙ verdicts-kept schedule whole in
    body_delivery _ (verdicts schedule) c.args.body.now (data_of whole) _
    (body_read c.args.body.now _ c.in-Ok.ensures.text c.in-Ok.ensures.tree.1)
    (subst (λ said. ReadsTree (λ _ all. g.T.TakesJourneys.has_taken schedule first c.take_tree.new.taker all) said c.take_tree.result) same (c.take_tree.ensures first begins))

pub returns : goal.returns
returns g c = λ first begins.
    rw c.from.ensures (body_refused _ (verdicts c.args.context.now) c.args.body.now c.in-Err.fault c.in-Err.ensures.fault)
