-- It is read over the setting of the gateway.
use Rattle.std.proofs.Common.{◌++◌, subst, sym}
use Rattle.std.specs.Prelude.{OnOk}
use Rattle.gateway_core.specs.Arriving.{StandsFor}
use Rattle.gateway_core.specs.Standing.{Kept}
use Rattle.gateway_core.proofs.arriving_feed.FeedTaking.piece.Goals as goal

pub returns-clause-takes : goal.returns-clause-takes
returns-clause-takes c = λ bytes h.
    subst (λ (kept : Kept). OnOk c.take_piece.result (StandsFor kept.setting c.take_piece.new.self (bytes ++ c.args.piece.now))) c.gate.view_is
    (c.take_piece.ensures.takes bytes (subst (λ (kept : Kept). StandsFor kept.setting c.args.self.now bytes) (sym c.gate.view_is) h))
