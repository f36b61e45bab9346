-- What was prepared is answered once its change is made; a refusal leaves all as it was.
use Rattle.std.proofs.Common.{Result, ap, subst, sym}
use Rattle.service_day.specs.Windows.{DayStarts}
use Rattle.gateway_core.specs.Changes.{IsWindowOf}
use Rattle.gateway_core.specs.Standing.{Kept}
use Rattle.gateway_core.specs.Taking.{FeedAnswer}
use Rattle.gateway_core.specs.declared.accepted.Accepted.{Accepted}
use Rattle.gateway_core.specs.declared.accepted.FeedRefusal.{FeedRefusal}
use Rattle.gateway_core.proofs.ChangeLemmas.{committed, not_committed}
use Rattle.gateway_core.proofs.gateway.Gateway.take_feed.Goals as goal

pub commit-requires : goal.commit-requires
commit-requires c = record { fits = c.in-Ok.ensures.ready.fits }

pub invariant_of-self : goal.invariant_of-self
invariant_of-self c =
    subst (λ (window : DayStarts). IsWindowOf c.self.inside.setting window) (sym c.commit.ensures.changed.window_is) c.in-Ok.ensures.ready.own

pub returns-in-Err-clause-takes : goal.returns-in-Err-clause-takes
returns-in-Err-clause-takes c = λ arrivals h.
    not_committed c.args.self.now c.self.inside.setting c.self.inside.state c.self.view_is arrivals
    (λ (kept : Kept) (answer : Result Accepted FeedRefusal) (now : Kept). FeedAnswer kept arrivals c.args.moment c.args.body.now answer now)
    c.in-Err.refusal c.self.inside.state c.args.self.now h (c.in-Err.ensures.answers arrivals)

pub returns-clause-takes : goal.returns-clause-takes
returns-clause-takes c = λ arrivals h.
    committed c.args.self.now c.self.inside.setting c.self.inside.state c.self.view_is arrivals
    (λ (kept : Kept) (answer : Result Accepted FeedRefusal) (now : Kept). FeedAnswer kept arrivals c.args.moment c.args.body.now answer now)
    c.in-Ok.prepared c.self.inside.state c.commit.new.self h (c.in-Ok.ensures.answers arrivals) c.commit.ensures.changed

pub returns-clause-setting : goal.returns-clause-setting
returns-clause-setting c = ap (λ (kept : Kept). kept.setting) c.self.view_is
