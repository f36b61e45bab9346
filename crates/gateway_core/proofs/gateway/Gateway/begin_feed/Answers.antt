-- It begins over what the gateway keeps.
use Rattle.std.proofs.Common.{◌≡◌, ◌∷◌, [], subst, sym}
use Rattle.gateway_core.specs.Arrivals.{moments_of, window_at}
use Rattle.gateway_core.specs.Arriving.{StandsFor}
use Rattle.gateway_core.specs.Standing.{Kept, Stands}
use Rattle.gateway_core.proofs.gateway.Gateway.begin_feed.Goals as goal

pub returns-clause-stands : goal.returns-clause-stands
returns-clause-stands c = subst (λ (kept : Kept). StandsFor kept.setting c.begin.result []) c.self.view_is c.begin.ensures.stands

pub returns-clause-window : goal.returns-clause-window
returns-clause-window c = λ arrivals h.
    subst (λ (kept : Kept). c.begin.result.window ≡ window_at kept.setting (c.args.moment ∷ moments_of arrivals)) c.self.view_is
    (c.begin.ensures.window arrivals (subst (λ (kept : Kept). Stands kept arrivals) (sym c.self.view_is) h))
