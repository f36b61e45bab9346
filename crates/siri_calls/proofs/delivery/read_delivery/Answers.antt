-- A delivery that took all journeys of a body is what it says.
use Rattle.journey_model.specs.Records.{recorded}
use Rattle.siri_json.proofs.DeliveryLemmas.{from_read, reads_given, reads_refused}
use Rattle.siri_json.specs.Deliveries.{HasVerdicts, tree_of}
use Rattle.siri_calls.specs.Deliveries.{AreServable, HasTaken}
use Rattle.siri_calls.specs.Verdicts.{verdicts}
use Rattle.siri_calls.proofs.delivery.read_delivery.Goals as goal
use Rattle.siri_calls.proofs.ServableLemmas.{takes_none}

pub returns-in-Ok-clause-reads : goal.returns-in-Ok-clause-reads
returns-in-Ok-clause-reads c =
    let schedule = c.args.context.now in
    reads_given (λ _ all. HasTaken schedule c.hand_on_journeys.new.taker all) (HasVerdicts recorded) (verdicts schedule) (tree_of c.args.body.now) _ c.hand_on_journeys.new.taker
    (λ all has. has.verdicts)
    (c.in-Ok.ensures c.new-delivery.result (takes_none schedule c.new-delivery.result c.new-delivery.ensures.items c.new-delivery.ensures.passed))

pub returns-in-Ok-clause-servable : goal.returns-in-Ok-clause-servable
returns-in-Ok-clause-servable c =
    let schedule = c.args.context.now in
    from_read (λ _ all. HasTaken schedule c.hand_on_journeys.new.taker all) (verdicts schedule) (tree_of c.args.body.now) _ (AreServable schedule c.hand_on_journeys.new.taker.items)
    (λ all has. has.servable)
    (c.in-Ok.ensures c.new-delivery.result (takes_none schedule c.new-delivery.result c.new-delivery.ensures.items c.new-delivery.ensures.passed))

pub returns-in-Err-clause-reads : goal.returns-in-Err-clause-reads
returns-in-Err-clause-reads c =
    let schedule = c.args.context.now in
    reads_refused (λ _ all. HasTaken schedule c.hand_on_journeys.new.taker all) (HasVerdicts recorded) (verdicts schedule) (tree_of c.args.body.now) c.in-Err.fault
    (c.in-Err.ensures c.new-delivery.result (takes_none schedule c.new-delivery.result c.new-delivery.ensures.items c.new-delivery.ensures.passed))
