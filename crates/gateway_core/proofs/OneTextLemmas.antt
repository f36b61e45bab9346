-- A feed has one SIRI text and one report, and so has what a gateway stands for; a body is answered one way.
use Rattle.std.proofs.Common.{◌≡◌, ◌∙◌, ℕ, ℤ, List, [], ◌∷◌, map, Option, Some, Result, Ok, sym, ap, subst}
use Rattle.std.proofs.lemmas.List.Sorted.{IsPermutation-sym, IsPermutation-trans, ranks_by}
use Rattle.gw_base.specs.declared.kind.Kind.{Kind}
use Rattle.gw_base.specs.declared.messages.Feed as feeds
use Rattle.feed_reading.proofs.OneMeaning.{one_feed}
use Rattle.journey_model.specs.FeedReadings.{given_all, last_of_each, last_reading, readings}
use Rattle.journey_model.specs.Records.{Recorded}
use Rattle.journey_model.specs.Schedules.{Schedule}
use Rattle.journey_model.specs.declared.fault.Fault.{Fault}
use Rattle.journey_model.specs.declared.situation.Situation.{Situation}
use Rattle.journey_model.specs.declared.report.Report.{Report}
use Rattle.propagation.specs.Feeds.{IsReading}
use Rattle.propagation.specs.declared.feeds.FeedReading.{FeedReading}
use Rattle.siri_calls.specs.Verdicts as journey_items
use Rattle.siri_calls.specs.Written.DeliveryTree.{delivery_text}
use Rattle.siri_json.specs.Deliveries.{passed_count, without_count}
use Rattle.siri_situations.specs.Situations as situation_items
use Rattle.timetable.specs.Seen.{seen}
use Rattle.reverse_calls.specs.Siri.{IsSiri}
use Rattle.gateway_core.specs.Arrivals.{Arrival, Given, admitted, admitted_situations, feed, journeys, moments_of, schedule_at, situations, window_at}
use Rattle.gateway_core.specs.Bodies.{Brings}
use Rattle.gateway_core.specs.Deliveries.{taken}
use Rattle.gateway_core.specs.Standing.{IsLastSiri, Kept, OfFeedOr, Stands}
use Rattle.gateway_core.specs.Taking.{TakesFeed, TakesJourneys, TakesSituations, journeys_with_room, limited_verdicts, report_on, situations_with_room}
use Rattle.gateway_core.specs.declared.setting.Setting.{Setting}
use Rattle.gateway_core.proofs.ReadingOrder.{apart, before, moved, once_each, reading_key, same, self, strict_once}
use Rattle.gateway_core.proofs.SortedLemmas.{only_order, sorted_rises}
use Rattle.gateway_core.proofs.WinnerLemmas.{journeys as journeys_keyed}

-- ---- a feed is read one way

one_reading : (schedule : Schedule) (given : feeds.Feed) (found other : FeedReading) → IsReading schedule given found → IsReading schedule given other → other.journeys ≡ found.journeys
one_reading schedule given found other a b =
    let rises = sorted_rises before (ranks_by journeys_keyed.total reading_key) in
    only_order before same self apart moved found.journeys other.journeys
    (strict_once found.journeys (rises found.journeys a.sorted) (λ trip day. once_each found.journeys (last_reading trip day (given_all (readings schedule given))) trip day (a.each_last trip day)))
    (rises other.journeys b.sorted)
    (IsPermutation-trans found.journeys (last_of_each (given_all (readings schedule given))) other.journeys
    (IsPermutation-sym (last_of_each (given_all (readings schedule given))) found.journeys a.same) b.same)

one_report : (schedule : Schedule) (given : feeds.Feed) (found other : FeedReading) → IsReading schedule given found → IsReading schedule given other → found.report ≡ other.report
one_report schedule given found other a b =
    let taken = a.taken ∙ sym b.taken in
    let passed = a.passed ∙ sym b.passed in
    let aside = a.aside ∙ sym b.aside in
    λ i. record { taken = taken i; passed = passed i; aside = aside i }

pub one_text : (schedule : Schedule) (given : feeds.Feed) (moment : ℤ) (text other : List ℕ) (report another : Report) → IsSiri schedule given moment text report → IsSiri schedule given moment other another
    → (text ≡ other) × (report ≡ another)
one_text schedule given moment text other report another a b = (
  a.is_text ∙ ap (delivery_text schedule moment) (sym (one_reading schedule given a.found b.found a.reading b.reading)) ∙ sym b.is_text,
  a.reports ∙ one_report schedule given a.found b.found a.reading b.reading ∙ sym b.reports,
)

-- ---- what is served by then is one text

last_text : (setting : Setting) (arrivals : List Arrival) (text other : List ℕ) → IsLastSiri setting arrivals text → IsLastSiri setting arrivals other → text ≡ other
last_text setting [] text other a b = a.0 ∙ sym b.0
last_text setting (one ∷ earlier) text other a b = by one.gives a b (last_text setting earlier text other)
  where
    by : (gives : Given) → OfFeedOr (schedule_at setting (one.moment ∷ moments_of earlier)) one.moment gives text (IsLastSiri setting earlier text)
        → OfFeedOr (schedule_at setting (one.moment ∷ moments_of earlier)) one.moment gives other (IsLastSiri setting earlier other)
        → (IsLastSiri setting earlier text → IsLastSiri setting earlier other → text ≡ other) → text ≡ other
    by (journeys records) a b before = before a b
    by (situations all) a b before = before a b
    by (feed given) a b before = (one_text (schedule_at setting (one.moment ∷ moments_of earlier)) given one.moment text other a.0 b.0 a.1 b.1).0

pub kept_text_one : (kept other : Kept) (arrivals : List Arrival) → kept.setting ≡ other.setting → Stands kept arrivals → Stands other arrivals → kept.text ≡ other.text
kept_text_one kept other arrivals same h k =
    last_text kept.setting arrivals kept.text other.text h.text_is (subst (λ (setting : Setting). IsLastSiri setting arrivals other.text) (sym same) k.text_is)

-- ---- and a body brings one thing

some_same : {X : Type 0} (one other : X) → ◌≡◌ {A = Option X} (Some one) (Some other) → one ≡ other
some_same one other e = cc

ok_same : {X E : Type 0} (one other : X) → ◌≡◌ {A = Result X E} (Ok one) (Ok other) → one ≡ other
ok_same one other e = cc

module _ (setting : Setting) (arrivals : List Arrival) (moment : ℤ) (bytes : List ℕ) (report other : Report) where
  schedule : Schedule
  schedule = schedule_at setting (moment ∷ moments_of arrivals)

  journeys_once : (records others : List Recorded) → TakesJourneys setting arrivals moment bytes report records → TakesJourneys setting arrivals moment bytes other others
      → (report ≡ other) × (records ≡ others)
  unfolding schedule
  journeys_once records others a b =
      let root = some_same a.root b.root (sym a.is_tree ∙ b.is_tree) in
      let all = ok_same a.all b.all (sym a.judged ∙ ap (journey_items.verdicts schedule) root ∙ b.judged) in (
        a.report_is
            ∙ ap (λ (all : List (Result (Recorded × ℕ) Fault)). report_on (journeys_with_room (window_at setting (moment ∷ moments_of arrivals)) (admitted setting arrivals) (map without_count all)) (passed_count all)) all
            ∙ sym b.report_is,
        a.records_are ∙ ap (λ (all : List (Result (Recorded × ℕ) Fault)). taken (map without_count all)) all ∙ sym b.records_are,
      )

  situations_once : (given others : List Situation) → TakesSituations setting arrivals moment bytes report given → TakesSituations setting arrivals moment bytes other others
      → (report ≡ other) × (given ≡ others)
  unfolding schedule
  situations_once given others a b =
      let root = some_same a.root b.root (sym a.is_tree ∙ b.is_tree) in
      let all = ok_same a.all b.all (sym a.judged ∙ ap (situation_items.verdicts schedule) root ∙ b.judged) in (
        a.report_is
            ∙ ap (λ (all : List (Result (Situation × ℕ) Fault)). report_on (situations_with_room (admitted_situations arrivals) (limited_verdicts (seen setting.table) all)) (passed_count all)) all
            ∙ sym b.report_is,
        a.given_are ∙ ap (λ (all : List (Result (Situation × ℕ) Fault)). taken (limited_verdicts (seen setting.table) all)) all ∙ sym b.given_are,
      )

  feed_once : (given another : feeds.Feed) → TakesFeed setting arrivals moment bytes report given → TakesFeed setting arrivals moment bytes other another
      → (report ≡ other) × (given ≡ another)
  unfolding schedule
  feed_once given another a b =
      let same = one_feed bytes given another a.is_feed.means b.is_feed.means in
      let siri = subst (λ (one : feeds.Feed). IsSiri schedule one moment b.text other) (sym same) b.siri in
      ((one_text schedule given moment a.text b.text report other a.siri siri).1, same)

  pub brings_one : (of : Kind) (given another : Given) → Brings setting arrivals moment of bytes report given → Brings setting arrivals moment of bytes other another
      → (report ≡ other) × (given ≡ another)
  brings_one of (journeys records) (journeys others) (is, a) (is', b) = let both = journeys_once records others a b in (both.0, ap journeys both.1)
  brings_one of (situations given) (situations others) (is, a) (is', b) = let both = situations_once given others a b in (both.0, ap situations both.1)
  brings_one of (feed given) (feed another) (is, a) (is', b) = let both = feed_once given another a b in (both.0, ap feed both.1)
  brings_one of (journeys records) (situations others) (is, a) (is', b) = let d = sym is ∙ is' in absurd cc
  brings_one of (journeys records) (feed another) (is, a) (is', b) = let d = sym is ∙ is' in absurd cc
  brings_one of (situations given) (journeys others) (is, a) (is', b) = let d = sym is ∙ is' in absurd cc
  brings_one of (situations given) (feed another) (is, a) (is', b) = let d = sym is ∙ is' in absurd cc
  brings_one of (feed given) (journeys others) (is, a) (is', b) = let d = sym is ∙ is' in absurd cc
  brings_one of (feed given) (situations others) (is, a) (is', b) = let d = sym is ∙ is' in absurd cc
