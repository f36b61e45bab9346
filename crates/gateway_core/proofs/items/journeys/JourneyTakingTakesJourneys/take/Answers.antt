-- One journey more is taken, or set aside.
use Rattle.std.proofs.Common.{◌≡◌, ◌∷◌, ◌++◌, [], Ok, Err, refl, rules, subst, sym}
use Rattle.std.specs.Prelude.{IfOk}
use Rattle.journey_model.specs.Records.{recorded}
use Rattle.siri_calls.specs.Servable.{IsServable}
use Rattle.siri_json.specs.Deliveries.{verdict_seen}
use Rattle.gateway_core.specs.JourneySteps.{HasTaken}
use Rattle.gateway_core.specs.declared.items.journeys.JourneyTaking.{JourneyTaking}
use Rattle.gateway_core.proofs.JourneyLemmas.{takes_more}
use Rattle.gateway_core.proofs.TallyLemmas.{CountsOne, on_counted}
use Rattle.gateway_core.proofs.items.journeys.JourneyTakingTakesJourneys.take.Goals as goal

pub returns-in_ok-fault-in-Ok : goal.returns-in_ok-fault-in-Ok
returns-in_ok-fault-in-Ok c = λ first all h.
    let schedule = c.args.context.now in
    let now : JourneyTaking = record { draft = c.take_record.new.draft; tally = c.add.new.self } in
    let here : c.args.verdict ≡ Ok (c.in-Ok.rec, c.in-Ok.passed) = search rules in
    let its = subst (λ verdict. IfOk verdict (λ one. IsServable schedule one.0)) here c.requires in
    on_counted c.add.result c.in_ok-fault-in-Ok.fault c.in-Ok.passed c.args.self.now.tally c.add.new.self _ c.add.ensures (λ counted.
    subst (λ verdict. HasTaken schedule first now (all ++ verdict_seen recorded verdict ∷ [])) (sym here)
    (takes_more schedule first c.args.self.now now all (Ok (recorded c.in-Ok.rec, c.in-Ok.passed)) c.in_ok-fault-in-Ok.ensures.same (its, tt) c.in_ok-fault-in-Ok.ensures.put
    c.in_ok-fault-in-Ok.ensures.entries
    (subst (λ fault. CountsOne fault c.in-Ok.passed c.args.self.now.tally c.add.new.self) c.in_ok-fault-in-Ok.ensures.fault counted) h))

pub returns-in-Err : goal.returns-in-Err
returns-in-Err c = λ first all h.
    let schedule = c.args.context.now in
    let now : JourneyTaking = record { draft = c.args.self.now.draft; tally = c.add-in-Err.new.self } in
    let here : c.args.verdict ≡ Err c.in-Err.fault = search rules in
    on_counted c.add-in-Err.result _ 0 c.args.self.now.tally c.add-in-Err.new.self _ c.add-in-Err.ensures (λ counted.
    subst (λ verdict. HasTaken schedule first now (all ++ verdict_seen recorded verdict ∷ [])) (sym here)
    (takes_more schedule first c.args.self.now now all (Err c.in-Err.fault) refl tt tt refl counted h))
