-- By the kind of the body: what is answered to it is what is answered to a delivery or a feed.
use Rattle.std.proofs.Common.{◌≡◌, ℕ, List, Result, subst, sym}
use Rattle.gw_base.specs.declared.kind.Kind.{Kind}
use Rattle.gw_base.specs.declared.kind.Kind.TheVariants as kind
use Rattle.gateway_core.specs.Bodies.{FeedStands, IsBody, Takes}
use Rattle.gateway_core.specs.declared.accepted.Accepted.{Accepted}
use Rattle.gateway_core.specs.declared.take.body.Body.{Body}
use Rattle.gateway_core.specs.declared.take.body.BodyRefusal.{BodyRefusal}
use Rattle.gateway_core.proofs.BodyAnswers.{takes_arrived, takes_journeys, takes_situations}
use Rattle.gateway_core.proofs.gateway.Gateway.take.Goals as goal

pub returns-in-Estimated-clause-takes : goal.returns-in-Estimated-clause-takes
returns-in-Estimated-clause-takes c = λ arrivals stands of bytes is.
    let held : (of ≡ kind.Estimated) × (c.in-Estimated.bytes.now ≡ bytes) =
    subst (λ (b : Body). IsBody c.args.self.now c.args.moment b of bytes) c.in-Estimated.is is in
    subst (λ (k : Kind). Takes c.args.self.now arrivals c.args.moment k bytes c.of_delivery.result c.take_estimated.new.self) (sym held.0)
    (subst (λ (b : List ℕ). Takes c.args.self.now arrivals c.args.moment kind.Estimated b c.of_delivery.result c.take_estimated.new.self) held.1
    (subst (λ (r : Result Accepted BodyRefusal). Takes c.args.self.now arrivals c.args.moment kind.Estimated c.in-Estimated.bytes.now r c.take_estimated.new.self) (sym c.of_delivery.ensures)
    (takes_journeys c.args.self.now arrivals c.args.moment c.take_estimated.new.self c.in-Estimated.bytes.now c.take_estimated.result (c.take_estimated.ensures.takes arrivals stands))))

pub returns-in-Situations-clause-takes : goal.returns-in-Situations-clause-takes
returns-in-Situations-clause-takes c = λ arrivals stands of bytes is.
    let held : (of ≡ kind.Situations) × (c.in-Situations.bytes.now ≡ bytes) =
    subst (λ (b : Body). IsBody c.args.self.now c.args.moment b of bytes) c.in-Situations.is is in
    subst (λ (k : Kind). Takes c.args.self.now arrivals c.args.moment k bytes c.of_delivery-in-Situations.result c.take_situations.new.self) (sym held.0)
    (subst (λ (b : List ℕ). Takes c.args.self.now arrivals c.args.moment kind.Situations b c.of_delivery-in-Situations.result c.take_situations.new.self) held.1
    (subst (λ (r : Result Accepted BodyRefusal). Takes c.args.self.now arrivals c.args.moment kind.Situations c.in-Situations.bytes.now r c.take_situations.new.self) (sym c.of_delivery-in-Situations.ensures)
    (takes_situations c.args.self.now arrivals c.args.moment c.take_situations.new.self c.in-Situations.bytes.now c.take_situations.result (c.take_situations.ensures.takes arrivals stands))))

pub returns-in-Feed-clause-takes : goal.returns-in-Feed-clause-takes
returns-in-Feed-clause-takes c = λ arrivals stands of bytes is.
    let came : (of ≡ kind.Feed) × FeedStands c.args.self.now c.args.moment c.in-Feed.feed bytes =
    subst (λ (b : Body). IsBody c.args.self.now c.args.moment b of bytes) c.in-Feed.is is in
    subst (λ (k : Kind). Takes c.args.self.now arrivals c.args.moment k bytes c.of_feed.result c.end_feed.new.self) (sym came.0)
    (subst (λ (r : Result Accepted BodyRefusal). Takes c.args.self.now arrivals c.args.moment kind.Feed bytes r c.end_feed.new.self) (sym c.of_feed.ensures)
    (takes_arrived c.args.self.now arrivals c.args.moment c.end_feed.new.self c.in-Feed.feed bytes c.end_feed.result stands came.1 (c.end_feed.ensures.takes arrivals stands)))
