-- A delivery that took all situations of a body is what it says.
use Rattle.siri_json.proofs.DeliveryLemmas.{from_read, reads_given, reads_refused}
use Rattle.siri_json.specs.Deliveries.{HasVerdicts, tree_of}
use Rattle.siri_situations.specs.Deliveries.{HasTaken, ReferToKnown, same}
use Rattle.siri_situations.specs.Situations.{verdicts}
use Rattle.siri_situations.proofs.delivery.read_situations.Goals as goal
use Rattle.siri_situations.proofs.KnownLemmas.{takes_none}

pub returns-in-Ok-clause-reads : goal.returns-in-Ok-clause-reads
returns-in-Ok-clause-reads c =
    let schedule = c.args.context.now in
    reads_given (λ _ all. HasTaken schedule c.hand_on_situations.new.taker all) (HasVerdicts same) (verdicts schedule) (tree_of c.args.body.now) _ c.hand_on_situations.new.taker
    (λ all has. has.verdicts)
    (c.in-Ok.ensures c.new-delivery.result (takes_none schedule c.new-delivery.result c.new-delivery.ensures.items c.new-delivery.ensures.passed))

pub returns-in-Ok-clause-known : goal.returns-in-Ok-clause-known
returns-in-Ok-clause-known c =
    let schedule = c.args.context.now in
    from_read (λ _ all. HasTaken schedule c.hand_on_situations.new.taker all) (verdicts schedule) (tree_of c.args.body.now) _ (ReferToKnown schedule.table c.hand_on_situations.new.taker.items)
    (λ all has. has.known)
    (c.in-Ok.ensures c.new-delivery.result (takes_none schedule c.new-delivery.result c.new-delivery.ensures.items c.new-delivery.ensures.passed))

pub returns-in-Err-clause-reads : goal.returns-in-Err-clause-reads
returns-in-Err-clause-reads c =
    let schedule = c.args.context.now in
    reads_refused (λ _ all. HasTaken schedule c.hand_on_situations.new.taker all) (HasVerdicts same) (verdicts schedule) (tree_of c.args.body.now) c.in-Err.fault
    (c.in-Err.ensures c.new-delivery.result (takes_none schedule c.new-delivery.result c.new-delivery.ensures.items c.new-delivery.ensures.passed))
