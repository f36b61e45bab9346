-- A body of any kind: what it brings, or why it is refused (SIRI 2.0, ServiceDelivery; GTFS Realtime, FeedMessage).
use Rattle.std.specs.Prelude.{◌≡◌, ℕ, ℤ, false, true, List, ◌∷◌, Some, None, Result, Ok, Err, ⊤}
use Rattle.gw_base.specs.declared.kind.Kind.{Kind}
use Rattle.gw_base.specs.declared.kind.Kind.TheVariants as kind
use Rattle.gw_base.specs.declared.member.Member.{Member}
use Rattle.gw_base.specs.declared.messages.Feed as feeds
use Rattle.feed_reading.specs.Faults.{IsFeedFault}
use Rattle.journey_model.specs.FeedReadings.{is_differential}
use Rattle.journey_model.specs.Schedules.{Schedule}
use Rattle.journey_model.specs.declared.report.Report.{Report}
use Rattle.serde_json.specs.Data.{Data}
use Rattle.siri_calls.specs.Verdicts as journey_items
use Rattle.siri_json.specs.Deliveries.{tree_of}
use Rattle.siri_json.specs.declared.delivery.DeliveryFault.{DeliveryFault}
use Rattle.siri_json.specs.declared.delivery.DeliveryFault.TheVariants as delivery_fault
use Rattle.siri_situations.specs.Situations as situation_items
use Rattle.reverse_calls.specs.Siri.{HasTooMany}
use Rattle.gateway_core.specs.Arrivals.{Arrival, Given, feed, journeys, moments_of, schedule_at, situations, window_at}
use Rattle.gateway_core.specs.Arriving as arriving
use Rattle.gateway_core.specs.Arriving.{Arriving}
use Rattle.gateway_core.specs.FeedTexts.{IsFeed}
use Rattle.gateway_core.specs.Standing.{Kept, Stands}
use Rattle.gateway_core.specs.Taking.{Follows, TakesFeed, TakesJourneys, TakesSituations}
use Rattle.gateway_core.specs.declared.accepted.Accepted.{Accepted}
use Rattle.gateway_core.specs.declared.accepted.FeedRefusal.{FeedRefusal}
use Rattle.gateway_core.specs.declared.accepted.FeedRefusal.TheVariants as feed_refusal
use Rattle.gateway_core.specs.declared.setting.Setting.{Setting}
use Rattle.gateway_core.specs.declared.take.body.Body.{Body}
use Rattle.gateway_core.specs.declared.take.body.Body.TheVariants as body
use Rattle.gateway_core.specs.declared.take.body.BodyRefusal.{BodyRefusal}
use Rattle.gateway_core.specs.declared.take.body.BodyRefusal.TheVariants.{Differential, Feed, Memory, NotDelivery, NotJson, TooManyCalls}

-- ---- what came

-- a feed that was read while it arrived stands for these bytes at a gateway, over the window of its moment
pub record FeedStands (gate : Kept) (moment : ℤ) (one : Arriving) (bytes : List ℕ) : Type 0 where
  pub moment_is : one.moment ≡ moment
  pub window_is : (arrivals : List Arrival) → Stands gate arrivals
      → one.window ≡ window_at gate.setting (moment ∷ moments_of arrivals)
  pub stands : arriving.StandsFor gate.setting one bytes

-- a body that came whole stands for these bytes of a kind
abbrev pub IsBody : Kept → ℤ → Body → Kind → List ℕ → Type 0
IsBody gate moment (body.Estimated held) of bytes = (of ≡ kind.Estimated) × (held.now ≡ bytes)
IsBody gate moment (body.Situations held) of bytes = (of ≡ kind.Situations) × (held.now ≡ bytes)
IsBody gate moment (body.Feed one) of bytes = (of ≡ kind.Feed) × FeedStands gate moment one bytes

-- ---- what it brings

-- a body of a kind that arrives at a moment, after these arrivals, is taken with this report and gives this
abbrev pub Brings : Setting → List Arrival → ℤ → Kind → List ℕ → Report → Given → Type 0
Brings setting arrivals moment of bytes report (journeys records) =
    (of ≡ kind.Estimated) × TakesJourneys setting arrivals moment bytes report records
Brings setting arrivals moment of bytes report (situations all) =
    (of ≡ kind.Situations) × TakesSituations setting arrivals moment bytes report all
Brings setting arrivals moment of bytes report (feed one) =
    (of ≡ kind.Feed) × TakesFeed setting arrivals moment bytes report one

-- ---- why it is refused; want of memory is free

-- a delivery: it is no JSON, or the way down to its items breaks at this member
abbrev pub RefusesDelivery : (Data → Member → Type 0) → List ℕ → BodyRefusal → Type 0
RefusesDelivery Breaks bytes NotJson = tree_of bytes ≡ None
RefusesDelivery Breaks bytes (NotDelivery member) =
    (root : Data) × (tree_of bytes ≡ Some root) × Breaks root member
RefusesDelivery Breaks bytes (Feed fault) = ⊥
RefusesDelivery Breaks bytes Differential = ⊥
RefusesDelivery Breaks bytes (TooManyCalls calls) = ⊥
RefusesDelivery Breaks bytes Memory = ⊤

-- a feed: for the first fault of its bytes, then as it is no full dataset, then for its calls
abbrev pub RefusesFeed : Schedule → List ℕ → BodyRefusal → Type 0
RefusesFeed schedule bytes NotJson = ⊥
RefusesFeed schedule bytes (NotDelivery member) = ⊥
RefusesFeed schedule bytes (Feed fault) = IsFeedFault bytes fault
RefusesFeed schedule bytes Differential =
    (one : feeds.Feed) × IsFeed bytes one × (is_differential one ≡ true)
RefusesFeed schedule bytes (TooManyCalls calls) =
    (one : feeds.Feed) × IsFeed bytes one × (is_differential one ≡ false) × HasTooMany schedule one calls
RefusesFeed schedule bytes Memory = ⊤

-- a body of a kind, over what journeys are read over
abbrev pub Refuses : Schedule → Kind → List ℕ → BodyRefusal → Type 0
Refuses schedule kind.Estimated bytes why =
    RefusesDelivery (λ root member. journey_items.verdicts schedule root ≡ Err member) bytes why
Refuses schedule kind.Situations bytes why =
    RefusesDelivery (λ root member. situation_items.verdicts schedule root ≡ Err member) bytes why
Refuses schedule kind.Feed bytes why = RefusesFeed schedule bytes why

-- ---- what is answered

-- what a gateway answers to a body of a kind, and what it stands for then
abbrev pub Takes : Kept → List Arrival → ℤ → Kind → List ℕ → Result Accepted BodyRefusal → Kept → Type 0
Takes kept arrivals moment of bytes (Ok accepted) now =
    (given : Given) × Brings kept.setting arrivals moment of bytes accepted.report given
    × Follows kept arrivals moment given now
Takes kept arrivals moment of bytes (Err why) now =
    Refuses (schedule_at kept.setting (moment ∷ moments_of arrivals)) of bytes why

-- what is answered to a delivery, and to a feed, as to a body of any kind
abbrev pub of_delivery : {A : Type 0} → Result A DeliveryFault → Result A BodyRefusal
of_delivery (Ok one) = Ok one
of_delivery (Err delivery_fault.NotJson) = Err NotJson
of_delivery (Err (delivery_fault.NotDelivery member)) = Err (NotDelivery member)
of_delivery (Err delivery_fault.Memory) = Err Memory

abbrev pub of_feed : {A : Type 0} → Result A FeedRefusal → Result A BodyRefusal
of_feed (Ok one) = Ok one
of_feed (Err (feed_refusal.Feed fault)) = Err (Feed fault)
of_feed (Err feed_refusal.Differential) = Err Differential
of_feed (Err (feed_refusal.TooManyCalls calls)) = Err (TooManyCalls calls)
of_feed (Err feed_refusal.Memory) = Err Memory
