-- What is answered to a delivery or a feed is what is answered to a body of its kind.
use Rattle.std.proofs.Common.{◌≡◌, ◌∷◌, ℕ, ℤ, List, Result, Ok, Err, refl, subst, sym}
use Rattle.gw_base.specs.declared.kind.Kind.TheVariants as kind
use Rattle.siri_json.specs.declared.delivery.DeliveryFault.{DeliveryFault}
use Rattle.siri_json.specs.declared.delivery.DeliveryFault.TheVariants as delivery_fault
use Rattle.gateway_core.specs.Arrivals.{Arrival, feed, journeys, moments_of, situations, window_at}
use Rattle.gateway_core.specs.Arriving as arriving
use Rattle.gateway_core.specs.Arriving.{Arriving}
use Rattle.gateway_core.specs.Bodies.{FeedStands, Takes, of_delivery, of_feed}
use Rattle.gateway_core.specs.Standing.{Kept, Stands}
use Rattle.gateway_core.specs.Taking.{FeedAnswer, JourneysAnswer, SituationsAnswer}
use Rattle.gateway_core.specs.declared.accepted.Accepted.{Accepted}
use Rattle.gateway_core.specs.declared.accepted.FeedRefusal.{FeedRefusal}
use Rattle.gateway_core.specs.declared.accepted.FeedRefusal.TheVariants as feed_refusal

module _ (kept : Kept) (arrivals : List Arrival) (moment : ℤ) (now : Kept) where
  pub takes_journeys : (body : List ℕ) (answer : Result Accepted DeliveryFault) → JourneysAnswer kept arrivals moment body answer now
      → Takes kept arrivals moment kind.Estimated body (of_delivery answer) now
  takes_journeys body (Ok accepted) says = (journeys says.0, (refl, says.1), says.2)
  takes_journeys body (Err delivery_fault.NotJson) says = says
  takes_journeys body (Err (delivery_fault.NotDelivery member)) says = says
  takes_journeys body (Err delivery_fault.Memory) says = tt

  pub takes_situations : (body : List ℕ) (answer : Result Accepted DeliveryFault) → SituationsAnswer kept arrivals moment body answer now
      → Takes kept arrivals moment kind.Situations body (of_delivery answer) now
  takes_situations body (Ok accepted) says = (situations says.0, (refl, says.1), says.2)
  takes_situations body (Err delivery_fault.NotJson) says = says
  takes_situations body (Err (delivery_fault.NotDelivery member)) says = says
  takes_situations body (Err delivery_fault.Memory) says = tt

  pub takes_feed : (body : List ℕ) (answer : Result Accepted FeedRefusal) → FeedAnswer kept arrivals moment body answer now
      → Takes kept arrivals moment kind.Feed body (of_feed answer) now
  takes_feed body (Ok accepted) says = (feed says.0, (refl, says.1), says.2)
  takes_feed body (Err (feed_refusal.Feed fault)) says = says
  takes_feed body (Err feed_refusal.Differential) says = says
  takes_feed body (Err (feed_refusal.TooManyCalls calls)) says = says
  takes_feed body (Err feed_refusal.Memory) says = tt

  -- a feed that arrived, over the window of its moment
  pub takes_arrived : (one : Arriving) (bytes : List ℕ) (answer : Result Accepted FeedRefusal) → Stands kept arrivals → FeedStands kept moment one bytes
      → (one.window ≡ window_at kept.setting (one.moment ∷ moments_of arrivals) → (bytes : List ℕ) → arriving.StandsFor kept.setting one bytes
      → FeedAnswer kept arrivals one.moment bytes answer now)
      → Takes kept arrivals moment kind.Feed bytes (of_feed answer) now
  takes_arrived one bytes answer stands came takes =
      takes_feed bytes answer
      (subst (λ (m : ℤ). FeedAnswer kept arrivals m bytes answer now) came.moment_is
      (takes (subst (λ (m : ℤ). one.window ≡ window_at kept.setting (m ∷ moments_of arrivals)) (sym came.moment_is) (came.window_is arrivals stands)) bytes came.stands))
