-- The body that was read is the first of those that are left.
use Rattle.std.proofs.Common.{◌+◌, ℕ, ℤ, List, Option, Some, Ok, Err, ◌∙◌, ap, subst}
use Rattle.gw_base.specs.declared.kind.Kind.{Kind}
use Rattle.delivery_journal.specs.Standing.{Gives}
use Rattle.gateway_durable.specs.Again.{TakesAgain}
use Rattle.gateway_durable.proofs.AgainLemmas.{all_replayed, one_refused, one_replayed}
use Rattle.gateway_durable.proofs.reopening.replay_next.Goals as goal

pub returns-in-Ok-None-clause-replays : goal.returns-in-Ok-None-clause-replays
returns-in-Ok-None-clause-replays g c = λ file is bodies held so_far.
    all_replayed c.args.gate.now.setting bodies c.args.at c.args.count c.args.gate.now so_far c.read_next.new.body
    (subst (λ (o : Option (Kind × ℤ × ℕ)). Gives so_far.rest c.args.at o c.read_next.new.body) c.in-Ok-None.field-0-is
    (c.in-Ok-None.ensures.body file is so_far.before so_far.rest (held ∙ ap Ok so_far.joined) so_far.place))

pub returns-in-Ok-clause-replays : goal.returns-in-Ok-clause-replays
returns-in-Ok-clause-replays g c = λ file is bodies held so_far.
    let setting = c.args.gate.now.setting in
    let read = c.read_next.new.body in
    let gives : Gives so_far.rest c.args.at (Some (c.in-Ok-Some.kind, c.in-Ok-Some.moment, c.in-Ok-Some.next)) read =
    subst (λ (o : Option (Kind × ℤ × ℕ)). Gives so_far.rest c.args.at o read) c.in-Ok-Some.field-0-is
    (c.in-Ok-Some.ensures.body file is so_far.before so_far.rest (held ∙ ap Ok so_far.joined) so_far.place) in
    one_replayed setting bodies c.args.at c.args.count c.args.gate.now so_far c.in-Ok-Some.next c.in-Ok-Some.kind c.in-Ok-Some.moment read gives c.take_again.new.gate
    (subst (λ (b : List ℕ). TakesAgain setting so_far.arrivals (record { kind = c.in-Ok-Some.kind; moment = c.in-Ok-Some.moment; body = b }) (c.args.count + 1) (Ok tt) c.take_again.new.gate)
    c.as_slice.ensures.same (c.in-Ok.ensures.takes so_far.arrivals so_far.stands))

pub returns-in-Err-take_again-clause-replays : goal.returns-in-Err-take_again-clause-replays
returns-in-Err-take_again-clause-replays g c = λ file is bodies held so_far.
    let setting = c.args.gate.now.setting in
    let read = c.read_next.new.body in
    let gives : Gives so_far.rest c.args.at (Some (c.in-Ok-Some.kind, c.in-Ok-Some.moment, c.in-Ok-Some.next)) read =
    subst (λ (o : Option (Kind × ℤ × ℕ)). Gives so_far.rest c.args.at o read) c.in-Ok-Some.field-0-is
    (c.in-Ok-Some.ensures.body file is so_far.before so_far.rest (held ∙ ap Ok so_far.joined) so_far.place) in
    one_refused setting bodies c.args.at c.args.count c.args.gate.now so_far c.in-Ok-Some.next c.in-Ok-Some.kind c.in-Ok-Some.moment read gives c.take_again.new.gate c.in-Err-take_again.fault
    (subst (λ (b : List ℕ). TakesAgain setting so_far.arrivals (record { kind = c.in-Ok-Some.kind; moment = c.in-Ok-Some.moment; body = b }) (c.args.count + 1) (Err c.in-Err-take_again.fault) c.take_again.new.gate)
    c.as_slice.ensures.same (c.in-Err-take_again.ensures.takes so_far.arrivals so_far.stands))
