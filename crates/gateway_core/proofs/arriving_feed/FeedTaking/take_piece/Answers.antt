-- It is read over the timetable and the zone of the gateway, and the window of the moment at which it began.
use Rattle.std.proofs.Common.{subst, sym}
use Rattle.gateway_core.specs.Arriving.{Arriving, StandsFor}
use Rattle.gateway_core.proofs.arriving_feed.FeedTaking.take_piece.Goals as goal

pub returns-clause-takes : goal.returns-clause-takes
returns-clause-takes c = λ bytes h.
    let own = subst (λ (arriving : Arriving). StandsFor c.args.setting.now arriving bytes) (sym c.self.view_is) h in
    (rw c.context_over-context.ensures at c.take_all.ensures.takes) bytes own
