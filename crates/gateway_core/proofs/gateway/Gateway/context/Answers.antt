-- The window that is lent is the one that is there by what arrived.
use Rattle.std.proofs.Common.{◌≡◌, ◌∙◌, ap, subst, sym}
use Rattle.service_day.specs.Windows.{DayStarts}
use Rattle.journey_model.specs.Schedules.{schedule_from}
use Rattle.gateway_core.specs.Arrivals.{moments_of, schedule_at}
use Rattle.gateway_core.specs.Standing.{Kept, Stands}
use Rattle.gateway_core.proofs.gateway.Gateway.context.Goals as goal

pub returns-clause-shows : goal.returns-clause-shows
returns-clause-shows c = λ arrivals h.
    let lent = schedule_from c.self.inside.setting.table c.self.inside.setting.zone in
    let here = subst (λ (kept : Kept). Stands kept arrivals) (sym c.self.view_is) h in
    c.context_over.ensures
    ∙ subst (λ (kept : Kept). lent c.self.inside.state.window ≡ schedule_at kept.setting (moments_of arrivals)) c.self.view_is
    (ap (λ (window : DayStarts). lent window) here.window_is)
