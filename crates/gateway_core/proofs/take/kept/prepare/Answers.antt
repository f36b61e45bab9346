-- What will be answered to a delivery or a feed is what will be answered to a body of its kind.
use Rattle.std.proofs.Common.{Result, subst, sym}
use Rattle.gw_base.specs.declared.kind.Kind.{Kind}
use Rattle.gw_base.specs.declared.kind.Kind.TheVariants as kind
use Rattle.gateway_core.specs.Bodies.{Takes}
use Rattle.gateway_core.specs.Changes.{WillAnswer, kept_of}
use Rattle.gateway_core.specs.declared.state.Prepared.{Prepared}
use Rattle.gateway_core.specs.declared.take.body.BodyRefusal.{BodyRefusal}
use Rattle.gateway_core.proofs.KeptAnswers.{will_take_feed, will_take_journeys, will_take_situations}
use Rattle.gateway_core.proofs.take.kept.prepare.Goals as goal

pub returns-in-Estimated-clause-answers : goal.returns-in-Estimated-clause-answers
returns-in-Estimated-clause-answers c = λ arrivals h.
    let setting = c.args.setting.now in
    let old = kept_of setting c.args.state.now in
    let now = c.prepare_journeys.new.state in
    subst (λ (of : Kind). WillAnswer setting now (Takes old arrivals c.args.moment of c.args.body.now) c.of_delivery.result) (sym c.in-Estimated.is)
    (subst (λ (result : Result Prepared BodyRefusal). WillAnswer setting now (Takes old arrivals c.args.moment kind.Estimated c.args.body.now) result) (sym c.of_delivery.ensures)
    (will_take_journeys setting now old arrivals c.args.moment c.args.body.now c.prepare_journeys.result (c.prepare_journeys.ensures.answers arrivals h)))

pub returns-in-Situations-clause-answers : goal.returns-in-Situations-clause-answers
returns-in-Situations-clause-answers c = λ arrivals h.
    let setting = c.args.setting.now in
    let old = kept_of setting c.args.state.now in
    let now = c.prepare_situations.new.state in
    subst (λ (of : Kind). WillAnswer setting now (Takes old arrivals c.args.moment of c.args.body.now) c.of_delivery-in-Situations.result) (sym c.in-Situations.is)
    (subst (λ (result : Result Prepared BodyRefusal). WillAnswer setting now (Takes old arrivals c.args.moment kind.Situations c.args.body.now) result) (sym c.of_delivery-in-Situations.ensures)
    (will_take_situations setting now old arrivals c.args.moment c.args.body.now c.prepare_situations.result (c.prepare_situations.ensures.answers arrivals h)))

pub returns-in-Feed-clause-answers : goal.returns-in-Feed-clause-answers
returns-in-Feed-clause-answers c = λ arrivals h.
    let setting = c.args.setting.now in
    let now = c.args.state.now in
    let old = kept_of setting now in
    subst (λ (of : Kind). WillAnswer setting now (Takes old arrivals c.args.moment of c.args.body.now) c.of_feed.result) (sym c.in-Feed.is)
    (subst (λ (result : Result Prepared BodyRefusal). WillAnswer setting now (Takes old arrivals c.args.moment kind.Feed c.args.body.now) result) (sym c.of_feed.ensures)
    (will_take_feed setting now old arrivals c.args.moment c.args.body.now c.prepare_feed.result (c.prepare_feed.ensures.answers arrivals h)))
