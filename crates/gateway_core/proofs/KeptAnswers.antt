-- What is answered to a body that is kept first.
use Rattle.std.proofs.Common.{ℕ, ℤ, List, Result, Ok, Err}
use Rattle.gw_base.specs.declared.kind.Kind.{Kind}
use Rattle.gw_base.specs.declared.kind.Kind.TheVariants as kind
use Rattle.siri_json.specs.declared.delivery.DeliveryFault.{DeliveryFault}
use Rattle.siri_json.specs.declared.delivery.DeliveryFault.TheVariants as delivery_fault
use Rattle.gateway_core.specs.Arrivals.{Arrival}
use Rattle.gateway_core.specs.Bodies.{Takes, of_delivery, of_feed}
use Rattle.gateway_core.specs.Changes.{WillAnswer, kept_of}
use Rattle.gateway_core.specs.KeptFirst.{CanBeTaken, RefusesKept, TakesKept, of_keep, of_refusal}
use Rattle.gateway_core.specs.Standing.{Kept}
use Rattle.gateway_core.specs.Taking.{FeedAnswer, JourneysAnswer, SituationsAnswer}
use Rattle.gateway_core.specs.declared.accepted.FeedRefusal.{FeedRefusal}
use Rattle.gateway_core.specs.declared.accepted.FeedRefusal.TheVariants as feed_refusal
use Rattle.gateway_core.specs.declared.before.KeepFault.{KeepFault}
use Rattle.gateway_core.specs.declared.before.KeepFault.TheVariants as keep_fault
use Rattle.gateway_core.specs.declared.setting.Setting.{Setting}
use Rattle.gateway_core.specs.declared.state.Prepared.{Prepared}
use Rattle.gateway_core.specs.declared.state.State.{State}
use Rattle.gateway_core.specs.declared.take.body.BodyRefusal.{BodyRefusal}
use Rattle.gateway_core.specs.declared.take.body.BodyRefusal.TheVariants as refusal
use Rattle.gateway_core.proofs.BodyAnswers.{takes_feed, takes_journeys, takes_situations}
use Rattle.gateway_core.proofs.ChangeLemmas.{changed_state, is_changed}

-- what will be answered to a delivery or a feed is what will be answered to a body of its kind
module _ (setting : Setting) (state : State) (kept : Kept) (arrivals : List Arrival) (moment : ℤ) (body : List ℕ) where
  pub will_take_journeys : (result : Result Prepared DeliveryFault) → WillAnswer setting state (JourneysAnswer kept arrivals moment body) result
      → WillAnswer setting state (Takes kept arrivals moment kind.Estimated body) (of_delivery result)
  will_take_journeys (Ok prepared) h = λ now changed. takes_journeys kept arrivals moment (kept_of setting now) body (Ok prepared.accepted) (h now changed)
  will_take_journeys (Err delivery_fault.NotJson) h = λ now. h now
  will_take_journeys (Err (delivery_fault.NotDelivery member)) h = λ now. h now
  will_take_journeys (Err delivery_fault.Memory) h = λ now. tt

  pub will_take_situations : (result : Result Prepared DeliveryFault) → WillAnswer setting state (SituationsAnswer kept arrivals moment body) result
      → WillAnswer setting state (Takes kept arrivals moment kind.Situations body) (of_delivery result)
  will_take_situations (Ok prepared) h = λ now changed. takes_situations kept arrivals moment (kept_of setting now) body (Ok prepared.accepted) (h now changed)
  will_take_situations (Err delivery_fault.NotJson) h = λ now. h now
  will_take_situations (Err (delivery_fault.NotDelivery member)) h = λ now. h now
  will_take_situations (Err delivery_fault.Memory) h = λ now. tt

  pub will_take_feed : (result : Result Prepared FeedRefusal) → WillAnswer setting state (FeedAnswer kept arrivals moment body) result
      → WillAnswer setting state (Takes kept arrivals moment kind.Feed body) (of_feed result)
  will_take_feed (Ok prepared) h = λ now changed. takes_feed kept arrivals moment (kept_of setting now) body (Ok prepared.accepted) (h now changed)
  will_take_feed (Err (feed_refusal.Feed fault)) h = λ now. h now
  will_take_feed (Err feed_refusal.Differential) h = λ now. h now
  will_take_feed (Err (feed_refusal.TooManyCalls calls)) h = λ now. h now
  will_take_feed (Err feed_refusal.Memory) h = λ now. tt

module _ (kept : Kept) (arrivals : List Arrival) (moment : ℤ) (of : Kind) (body : List ℕ) where
  -- what refuses a body refuses it before it is kept
  pub refused_first : (why : BodyRefusal) (now : Kept) → Takes kept arrivals moment of body (Err why) now → TakesKept kept arrivals moment of body (Err (of_refusal why)) now
  refused_first refusal.NotJson now h = h
  refused_first (refusal.NotDelivery member) now h = h
  refused_first (refusal.Feed fault) now h = h
  refused_first refusal.Differential now h = h
  refused_first (refusal.TooManyCalls calls) now h = h
  refused_first refusal.Memory now h = tt

  -- what was prepared can be taken
  pub can_be_taken : (setting : Setting) (state : State) (prepared : Prepared) → WillAnswer setting state (Takes kept arrivals moment of body) (Ok prepared)
      → CanBeTaken kept.setting arrivals moment of body
  can_be_taken setting state prepared h =
      let taken = h (changed_state state prepared.change) (is_changed state prepared.change) in
      (prepared.accepted.report, taken.0, taken.1)

-- what isn't kept would be taken
pub not_kept : (setting : Setting) (arrivals : List Arrival) (moment : ℤ) (of : Kind) (body : List ℕ) (fault : KeepFault) → CanBeTaken setting arrivals moment of body
    → RefusesKept setting arrivals moment of body (of_keep fault)
not_kept setting arrivals moment of body keep_fault.Failed h = h
not_kept setting arrivals moment of body (keep_fault.Full end) h = h
