-- What a gateway answers to a feed.
use Rattle.std.proofs.Common.{◌≡◌, ◌∙◌, ◌∷◌, ℕ, ℤ, List, Result, Ok, Err, IfOk, IfErr, subst, sym}
use Rattle.std.specs.Prelude.{filter}
use Rattle.gw_base.specs.declared.messages.Feed.{Feed}
use Rattle.feed_reading.specs.Faults.{IsTold}
use Rattle.feed_reading.specs.declared.fault.FeedFault as faults
use Rattle.feed_reading.specs.declared.fault.FeedFault.TheVariants as fault
use Rattle.journey_model.specs.Schedules.{Schedule}
use Rattle.service_day.specs.Windows.{DayStarts}
use Rattle.gateway_core.specs.Arrivals.{Arrival, admitted, is_within, moments_of, schedule_at, window_at}
use Rattle.gateway_core.specs.Arriving.{Arriving, StandsFor}
use Rattle.gateway_core.specs.Deliveries.{schedule_over}
use Rattle.gateway_core.specs.FeedTexts.{IsEnded, IsFeed, IsRefusedFeed, SaysFeed, of_bytes}
use Rattle.gateway_core.specs.Standing.{Kept, KeepsJourneys, Stands}
use Rattle.gateway_core.specs.Taking.{FeedAnswer}
use Rattle.gateway_core.specs.declared.accepted.Accepted.{Accepted}
use Rattle.gateway_core.specs.declared.accepted.FeedRefusal.{FeedRefusal}
use Rattle.gateway_core.specs.declared.accepted.FeedRefusal.TheVariants as refusal
use Rattle.gateway_core.specs.declared.setting.Setting.{Setting}
use Rattle.journey_model.specs.declared.report.Report.{Report}
use Rattle.gateway_core.proofs.StandingLemmas.{stands_feed}

-- ---- what is read of a body

pub bytes_refused : (schedule : Schedule) (body : List ℕ) (one : faults.FeedFault) → IsTold body one → IsRefusedFeed schedule body (of_bytes one)
bytes_refused schedule body (fault.EntityTooLong at) h = h
bytes_refused schedule body (fault.Wire told) h = h
bytes_refused schedule body (fault.NotText at) h = h
bytes_refused schedule body (fault.MissingField at name) h = h
bytes_refused schedule body fault.Memory h = tt

-- what is answered to the end of a feed without a fault, of its bytes
pub ended_says : (schedule : Schedule) (moment : ℤ) (bytes : List ℕ) (one : Feed) → IsFeed bytes one → (answer : Result (List ℕ × Report) FeedRefusal)
    → IsEnded schedule moment one answer → IfOk answer (λ both. SaysFeed schedule moment bytes both.0 both.1)
ended_says schedule moment bytes one is (Ok both) h = record { given = one; is_feed = is; full = h.0; siri = h.1 }
ended_says schedule moment bytes one is (Err why) h = tt

pub ended_refuses : (schedule : Schedule) (moment : ℤ) (bytes : List ℕ) (one : Feed) → IsFeed bytes one → (answer : Result (List ℕ × Report) FeedRefusal)
    → IsEnded schedule moment one answer → IfErr answer (IsRefusedFeed schedule bytes)
ended_refuses schedule moment bytes one is (Ok both) h = tt
ended_refuses schedule moment bytes one is (Err (refusal.Feed told)) h = absurd h
ended_refuses schedule moment bytes one is (Err refusal.Differential) h = (one, is, h)
ended_refuses schedule moment bytes one is (Err (refusal.TooManyCalls calls)) h = (one, is, h.0, h.1)
ended_refuses schedule moment bytes one is (Err refusal.Memory) h = tt

-- ---- a feed that arrived, of which the parts were taken apart

pub parts_stand : (setting inside : Setting) (taking part : Arriving) (bytes : List ℕ) → inside ≡ setting → part ≡ taking
    → StandsFor setting taking bytes → StandsFor inside part bytes
parts_stand setting inside taking part bytes is same stands =
    subst (λ (t : Arriving). StandsFor inside t bytes) (sym same) (subst (λ (s : Setting). StandsFor s taking bytes) (sym is) stands)

pub parts_say : (setting inside : Setting) (taking part : Arriving) (bytes text : List ℕ) (report : Report) → inside ≡ setting → part ≡ taking
    → StandsFor setting taking bytes
    → ((bytes : List ℕ) → StandsFor inside part bytes → SaysFeed (schedule_over inside part.window) part.moment bytes text report)
    → SaysFeed (schedule_over setting taking.window) taking.moment bytes text report
parts_say setting inside taking part bytes text report is same stands says =
    subst (λ (s : Setting). SaysFeed (schedule_over s taking.window) taking.moment bytes text report) is
    (subst (λ (t : Arriving). SaysFeed (schedule_over inside t.window) t.moment bytes text report) same
    (says bytes (parts_stand setting inside taking part bytes is same stands)))

pub parts_refused : (setting inside : Setting) (taking part : Arriving) (bytes : List ℕ) (one : FeedRefusal) → inside ≡ setting → part ≡ taking
    → StandsFor setting taking bytes
    → ((bytes : List ℕ) → StandsFor inside part bytes → IsRefusedFeed (schedule_over inside part.window) bytes one)
    → IsRefusedFeed (schedule_over setting taking.window) bytes one
parts_refused setting inside taking part bytes one is same stands refuses =
    subst (λ (s : Setting). IsRefusedFeed (schedule_over s taking.window) bytes one) is
    (subst (λ (t : Arriving). IsRefusedFeed (schedule_over inside t.window) bytes one) same
    (refuses bytes (parts_stand setting inside taking part bytes is same stands)))

-- ---- what is answered

pub answer_taken : (old now : Kept) (arrivals : List Arrival) (moment : ℤ) (body text : List ℕ) (accepted : Accepted) (window : DayStarts) → Stands old arrivals
    → window ≡ window_at old.setting (moment ∷ moments_of arrivals)
    → SaysFeed (schedule_over old.setting window) moment body text accepted.report
    → now.setting ≡ old.setting → now.window ≡ window
    → KeepsJourneys (schedule_at old.setting (moment ∷ moments_of arrivals)) (filter (is_within (window_at old.setting (moment ∷ moments_of arrivals))) (admitted old.setting arrivals)) now.journeys
    → now.situations ≡ old.situations → text ≡ now.text
    → FeedAnswer old arrivals moment body (Ok accepted) now
answer_taken old now arrivals moment body text accepted window h rolls says setting own keeps alerts same =
    let t : SaysFeed (schedule_at old.setting (moment ∷ moments_of arrivals)) moment body now.text accepted.report =
    subst (λ (last : List ℕ). SaysFeed (schedule_at old.setting (moment ∷ moments_of arrivals)) moment body last accepted.report) same
    (subst (λ (w : DayStarts). SaysFeed (schedule_over old.setting w) moment body text accepted.report) rolls says) in (
      t.given,
      record { is_feed = t.is_feed; full = t.full; text = now.text; siri = t.siri },
      record { setting_is = setting; stands = stands_feed old now arrivals moment t.given accepted.report h setting (own ∙ rolls) keeps alerts t.siri },
    )

pub answer_refused : (old now : Kept) (arrivals : List Arrival) (moment : ℤ) (body : List ℕ) (one : FeedRefusal) (window : DayStarts)
    → window ≡ window_at old.setting (moment ∷ moments_of arrivals)
    → IsRefusedFeed (schedule_over old.setting window) body one
    → FeedAnswer old arrivals moment body (Err one) now
answer_refused old now arrivals moment body one window rolls refused =
    subst (λ (w : DayStarts). IsRefusedFeed (schedule_over old.setting w) body one) rolls refused
