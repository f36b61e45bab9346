use Rattle.std.proofs.Common.{◌∷◌, ◌++◌, [], ℕ, Option, Some, None, subst}
use Rattle.gw_base.specs.declared.messages.Entity.{Entity}
use Rattle.feed_reading.specs.FeedPieces.{GoesOn}
use Rattle.gateway_core.proofs.arriving_feed.take_front.Goals as goal

pub returns-in_ok-add-clause-takes : goal.returns-in_ok-add-clause-takes
returns-in_ok-add-clause-takes c = λ bytes h.
    let on : GoesOn c.feed.new.self bytes c.args.piece.now h.given (c.in_ok-used.used, Some (c.in-Some.index, c.in-Some.entity)) =
    subst (λ (given : Option (ℕ × Entity)). GoesOn c.feed.new.self bytes c.args.piece.now h.given (c.in_ok-used.used, given)) c.in-Some.is (c.in_ok-used.ensures.gives bytes h.given h.read) in
    record { given = h.given ++ c.in-Some.entity ∷ []; read = on.1; folded = c.in_ok-add.ensures.adds h.given h.folded on.0 }

pub returns-in_default-clause-takes : goal.returns-in_default-clause-takes
returns-in_default-clause-takes c = λ bytes h.
    let on : GoesOn c.feed.new.self bytes c.args.piece.now h.given (c.in_ok-used.used, None) =
    subst (λ (given : Option (ℕ × Entity)). GoesOn c.feed.new.self bytes c.args.piece.now h.given (c.in_ok-used.used, given)) c.in_default.is (c.in_ok-used.ensures.gives bytes h.given h.read) in
    record { given = h.given; read = on; folded = h.folded }
