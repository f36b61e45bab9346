-- The feed, or the SIRI text.
use Rattle.std.proofs.Common.{subst}
use Rattle.gw_base.specs.Count.{Rose}
use Rattle.gateway_core.specs.Standing.{Kept, Stands, served}
use Rattle.gateway_server.specs.Steps.{PutsShown, feed, text}
use Rattle.gateway_server.proofs.connection.show.Goals as goal

pub returns-in-Feed-clause-shows : goal.returns-in-Feed-clause-shows
returns-in-Feed-clause-shows g c = λ arrivals.
    subst
    (λ (k : Kept).
    Stands k arrivals
    → PutsShown (Rose (g.S.Sink.faults c.args.sink.now) (g.S.Sink.faults c.put_feed.new.sink)) k.setting arrivals c.args.moment c.args.what
    (g.S.Sink.told c.args.sink.now) (g.S.Sink.told c.put_feed.new.sink))
    c.gateway-gate.ensures.lends
    (λ stands.
    feed (served c.args.moment c.gateway-gate.result.now) c.in-Feed.is
    (c.serves_what_arrived_law.ensures.rebuilt arrivals stands, c.serves_what_arrived_law.ensures.gives arrivals stands)
    (c.put_feed.ensures.front arrivals stands))

pub returns-in-Timetable-clause-shows : goal.returns-in-Timetable-clause-shows
returns-in-Timetable-clause-shows g c = λ arrivals.
    subst
    (λ (k : Kept).
    Stands k arrivals
    → PutsShown (Rose (g.S.Sink.faults c.args.sink.now) (g.S.Sink.faults c.put_siri.new.sink)) k.setting arrivals c.args.moment c.args.what
    (g.S.Sink.told c.args.sink.now) (g.S.Sink.told c.put_siri.new.sink))
    c.gateway-gate.ensures.lends
    (λ stands. text c.gateway-gate.result.now.text c.in-Timetable.is stands.text_is c.put_siri.ensures.front)
