-- One situation more is taken, or set aside.
use Rattle.std.proofs.Common.{◌≡◌, ◌∷◌, ◌++◌, [], Ok, Err, refl, rules, subst, sym}
use Rattle.std.specs.Prelude.{IfOk}
use Rattle.journey_model.specs.Schedules.{Schedule}
use Rattle.journey_model.specs.Situations.{AreKnown}
use Rattle.gateway_core.specs.SituationSteps.{HasTaken, IsVerdictServed, alerts_after, verdict_fault, verdict_step}
use Rattle.gateway_core.specs.Taking.{limited_verdict}
use Rattle.gateway_core.specs.declared.items.situations.SituationTaking.{SituationTaking}
use Rattle.gateway_core.proofs.SituationLemmas.{takes_more}
use Rattle.gateway_core.proofs.TallyLemmas.{CountsOne, on_counted}
use Rattle.gateway_core.proofs.items.situations.SituationTakingTakesSituations.take.Goals as goal

pub returns-in_ok-fault-in-Ok : goal.returns-in_ok-fault-in-Ok
returns-in_ok-fault-in-Ok c = λ first all h.
    let schedule = c.args.context.now in
    let now : SituationTaking = record { draft = c.take_situation.new.draft; tally = c.add.new.self } in
    let here : c.args.verdict ≡ Ok (c.in-Ok.situation, c.in-Ok.passed) = search rules in
    let its = subst (λ verdict. IfOk verdict (λ one. AreKnown schedule.table one.0.refs)) here c.requires in
    on_counted c.add.result c.in_ok-fault-in-Ok.fault c.in-Ok.passed c.args.self.now.tally c.add.new.self _ c.add.ensures (λ counted.
    subst (λ verdict. HasTaken schedule first now (all ++ verdict ∷ [])) (sym here)
    (takes_more schedule first c.args.self.now now all (Ok (c.in-Ok.situation, c.in-Ok.passed)) c.in_ok-fault-in-Ok.ensures.same its
    (subst (λ (lent : Schedule). IsVerdictServed lent.table (limited_verdict lent.table (Ok c.in-Ok.situation))) c.context.view_is c.in_ok-fault-in-Ok.ensures.served)
    (subst (λ (lent : Schedule). alerts_after c.take_situation.new.draft ≡ verdict_step lent.table (alerts_after c.args.self.now.draft) (limited_verdict lent.table (Ok c.in-Ok.situation))) c.context.view_is
    c.in_ok-fault-in-Ok.ensures.entries)
    (subst (λ fault. CountsOne fault c.in-Ok.passed c.args.self.now.tally c.add.new.self)
    (subst (λ (lent : Schedule). c.in_ok-fault-in-Ok.fault ≡ verdict_fault (alerts_after c.args.self.now.draft) (limited_verdict lent.table (Ok c.in-Ok.situation))) c.context.view_is
    c.in_ok-fault-in-Ok.ensures.fault) counted) h))

pub returns-in-Err : goal.returns-in-Err
returns-in-Err c = λ first all h.
    let schedule = c.args.context.now in
    let now : SituationTaking = record { draft = c.args.self.now.draft; tally = c.add-in-Err.new.self } in
    let here : c.args.verdict ≡ Err c.in-Err.fault = search rules in
    on_counted c.add-in-Err.result _ 0 c.args.self.now.tally c.add-in-Err.new.self _ c.add-in-Err.ensures (λ counted.
    subst (λ verdict. HasTaken schedule first now (all ++ verdict ∷ [])) (sym here)
    (takes_more schedule first c.args.self.now now all (Err c.in-Err.fault) refl tt tt refl counted h))
