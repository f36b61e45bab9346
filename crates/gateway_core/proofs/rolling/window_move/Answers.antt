-- What is left is what is of the window's days.
use Rattle.std.proofs.Common.{◌≡◌, ◌∙◌, ◌∷◌, ap, refl}
use Rattle.service_day.specs.Windows.{DayStarts}
use Rattle.gateway_core.specs.Arrivals.{moments_of, window_at}
use Rattle.gateway_core.specs.Changes.{kept_of}
use Rattle.gateway_core.proofs.RollingLemmas.{keeps_left}
use Rattle.gateway_core.proofs.rolling.window_move.Goals as goal

pub returns-clause-rolls : goal.returns-clause-rolls
returns-clause-rolls c = λ arrivals h. c.window_after-window.ensures.rolls (moments_of arrivals) h.window_is

pub returns-clause-keeps : goal.returns-clause-keeps
returns-clause-keeps c = λ arrivals h.
    let rolls : c.window_after-window.result ≡ window_at c.args.setting.now (c.args.moment ∷ moments_of arrivals) =
    c.window_after-window.ensures.rolls (moments_of arrivals) h.window_is in
    keeps_left (kept_of c.args.setting.now c.args.state.now) c.args.moment arrivals c.args.state.now.journeys.entries c.first.result c.expired_before-expired.result
    refl (c.first.ensures.value ∙ ap (λ (w : DayStarts). w.first) rolls) h
    c.expired_before-expired.ensures.before c.expired_before-expired.ensures.after
