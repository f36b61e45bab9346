-- What a feed's one piece leaves stands for the whole body, in the window of the moment at which it began.
use Rattle.std.proofs.Common.{◌≡◌, ◌∙◌, ◌∷◌, [], ℤ, ap, sym, subst}
use Rattle.gateway_core.specs.Arrivals.{moments_of, window_at}
use Rattle.gateway_core.specs.Changes.{WillAnswer, kept_of}
use Rattle.gateway_core.specs.Taking.{FeedAnswer}
use Rattle.gateway_core.proofs.take.feed.prepare_feed.Goals as goal

pub prepare_arrived-requires : goal.prepare_arrived-requires
prepare_arrived-requires c = record { own = c.requires.own; stands = (c.args.body.now, c.in-Ok.ensures.takes [] c.begin-taking.ensures.stands) }

pub returns-in-Ok-clause-answers : goal.returns-in-Ok-clause-answers
returns-in-Ok-clause-answers c = λ arrivals h.
    let old = kept_of c.args.setting.now c.args.state.now in
    let at : c.take_piece.new.self.moment ≡ c.args.moment = c.take_piece.ensures.moment ∙ c.begin-taking.ensures.moment in
    let rolls : c.take_piece.new.self.window ≡ window_at c.args.setting.now (c.take_piece.new.self.moment ∷ moments_of arrivals) =
    c.take_piece.ensures.window ∙ c.begin-taking.ensures.window arrivals h
    ∙ ap (λ (moment : ℤ). window_at c.args.setting.now (moment ∷ moments_of arrivals)) (sym at) in
    subst (λ (moment : ℤ). WillAnswer c.args.setting.now c.args.state.now (FeedAnswer old arrivals moment c.args.body.now) c.prepare_arrived.result) at
    (c.prepare_arrived.ensures.answers arrivals h rolls c.args.body.now (c.in-Ok.ensures.takes [] c.begin-taking.ensures.stands))
