-- What was prepared is answered once its change is made; a refusal leaves all as it was.
use Rattle.std.proofs.Common.{◌∙◌, Result, ap, subst, sym}
use Rattle.siri_json.specs.declared.delivery.DeliveryFault.{DeliveryFault}
use Rattle.service_day.specs.Windows.{DayStarts}
use Rattle.gateway_core.specs.Changes.{IsWindowOf}
use Rattle.gateway_core.specs.Standing.{Kept}
use Rattle.gateway_core.specs.Taking.{JourneysAnswer}
use Rattle.gateway_core.specs.declared.accepted.Accepted.{Accepted}
use Rattle.gateway_core.proofs.ChangeLemmas.{committed, not_committed, same_kept}
use Rattle.gateway_core.proofs.gateway.Gateway.take_estimated.Goals as goal

pub invariant_of-self : goal.invariant_of-self
invariant_of-self c =
    subst (λ (window : DayStarts). IsWindowOf c.self.inside.setting window) (sym c.prepare_journeys.ensures.same.window_is) c.self.invariant

pub commit-requires : goal.commit-requires
commit-requires c = record { fits = c.in-Ok.ensures.ready.fits }

pub invariant_of-self-2 : goal.invariant_of-self-2
invariant_of-self-2 c =
    subst (λ (window : DayStarts). IsWindowOf c.self.inside.setting window) (sym c.commit.ensures.changed.window_is) c.in-Ok.ensures.ready.own

pub returns-in-Err-clause-takes : goal.returns-in-Err-clause-takes
returns-in-Err-clause-takes c = λ arrivals h.
    not_committed c.args.self.now c.self.inside.setting c.self.inside.state c.self.view_is arrivals
    (λ (kept : Kept) (answer : Result Accepted DeliveryFault) (now : Kept). JourneysAnswer kept arrivals c.args.moment c.args.body.now answer now)
    c.in-Err.fault c.prepare_journeys.new.state _ h (c.in-Err.ensures.answers arrivals)

pub returns-clause-takes : goal.returns-clause-takes
returns-clause-takes c = λ arrivals h.
    committed c.args.self.now c.self.inside.setting c.self.inside.state c.self.view_is arrivals
    (λ (kept : Kept) (answer : Result Accepted DeliveryFault) (now : Kept). JourneysAnswer kept arrivals c.args.moment c.args.body.now answer now)
    c.in-Ok.prepared c.prepare_journeys.new.state c.commit.new.self h (c.in-Ok.ensures.answers arrivals) c.commit.ensures.changed

pub returns-in-Err-clause-refused : goal.returns-in-Err-clause-refused
returns-in-Err-clause-refused c = same_kept c.self.inside.setting c.self.inside.state c.prepare_journeys.new.state c.prepare_journeys.ensures.same ∙ c.self.view_is

pub returns-in-Err-clause-setting : goal.returns-in-Err-clause-setting
returns-in-Err-clause-setting c = ap (λ (kept : Kept). kept.setting) c.self.view_is

pub returns-clause-setting : goal.returns-clause-setting
returns-clause-setting c = ap (λ (kept : Kept). kept.setting) c.self.view_is
