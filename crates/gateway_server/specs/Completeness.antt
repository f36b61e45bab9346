-- What is well formed over what arrived before it, and how a connection ends that brings it (RFC 9112; SIRI 2.0,
-- ServiceDelivery; GTFS Realtime, FeedMessage).
use Rattle.std.specs.Prelude.{◌≡◌, ◌≤◌, ◌⊎◌, ℕ, ℤ, Bool, false, List, [], ◌∷◌, ◌++◌, length, map, filter, Some, Result, Ok}
use Rattle.gw_base.specs.declared.door.Entry.{Entry}
use Rattle.gw_base.specs.declared.door.Mark.{Mark}
use Rattle.gw_base.specs.declared.door.Mark.TheVariants as mark
use Rattle.gw_base.specs.declared.messages.Feed.{Feed}
use Rattle.gw_base.specs.declared.kind.Kind.TheVariants as kind
use Rattle.http_talk.specs.Request.{IsRequest, Get, Post}
use Rattle.http_talk.specs.declared.answer.Answer.TheVariants as answer
use Rattle.http_talk.specs.declared.refusal.Refusal.TheVariants as refusal
use Rattle.http_talk.specs.declared.target.Resource.TheVariants as resource
use Rattle.journey_model.specs.FeedReadings.{is_differential}
use Rattle.journey_model.specs.Records.{Recorded}
use Rattle.journey_model.specs.Schedules.{Schedule}
use Rattle.journey_model.specs.declared.fault.Fault.{Fault}
use Rattle.journey_model.specs.declared.report.Report.{Report}
use Rattle.journey_model.specs.declared.situation.Situation.{Situation}
use Rattle.serde_json.specs.Data.{Data}
use Rattle.service_day.specs.Windows.{DayStarts}
use Rattle.siri_json.specs.Deliveries.{passed_count, tree_of, without_count}
use Rattle.siri_calls.specs.Verdicts as journey_items
use Rattle.siri_situations.specs.Situations as situation_items
use Rattle.timetable.specs.Seen.{seen}
use Rattle.reverse_calls.specs.Siri.{HasTooMany}
use Rattle.gateway_core.specs.Arrivals.{Arrival, admitted, admitted_situations, firsts, is_same_journey, is_same_number, is_within, moments_of, most_journeys, most_numbers, schedule_at, window_at}
use Rattle.gateway_core.specs.Standing.{IsLastSiri}
use Rattle.gateway_core.specs.Taking.{TakesFeed, limited_verdicts, report_json}
use Rattle.gateway_core.specs.declared.setting.Setting.{Setting}
use Rattle.gateway_server.specs.Answers.{IsFeedShown, answer_of, refused_with}
use Rattle.gateway_core.specs.FeedTexts.{IsFeed}

-- ---- what is well formed

-- the journeys that were admitted before and have days in the window, and those of these records, are together at most
-- 50,000
abbrev pub JourneysHaveRoom : DayStarts → List Recorded → List Recorded → Type 0
JourneysHaveRoom window before records =
    length (firsts is_same_journey (filter (is_within window) before ++ records)) ≤ most_journeys

-- the numbers that were admitted before, and those of these situations, are together at most 5,000
abbrev pub NumbersHaveRoom : List Situation → List Situation → Type 0
NumbersHaveRoom before given = length (firsts is_same_number (before ++ given)) ≤ most_numbers

-- a body is a delivery of journeys of which none has a fault at a moment, after what arrived: it is JSON in the frame
-- of a delivery; each of its journeys gives a record, as its members have their forms, it names a trip on a day of the
-- window on which that runs, its calls match the trip's stops, and its delays are in range; and there is room. These
-- are `records`, and `passed` is how many calls are passed over
pub record IsSoundDelivery (setting : Setting) (arrivals : List Arrival) (moment : ℤ) (body : List ℕ)
    (records : List Recorded) (passed : ℕ) : Type 0 where
  pub root : Data
  pub is_tree : tree_of body ≡ Some root
  pub all : List (Result (Recorded × ℕ) Fault)
  pub judged : journey_items.verdicts (schedule_at setting (moment ∷ moments_of arrivals)) root ≡ Ok all
  pub faultless : map without_count all ≡ map Ok records
  pub passed_is : passed ≡ passed_count all
  pub room : JourneysHaveRoom (window_at setting (moment ∷ moments_of arrivals)) (admitted setting arrivals) records

-- the same of a delivery of situations, none of which has too long an alert; `passed` is how many references aren't
-- known
pub record IsSoundSituations (setting : Setting) (arrivals : List Arrival) (moment : ℤ) (body : List ℕ)
    (given : List Situation) (passed : ℕ) : Type 0 where
  pub root : Data
  pub is_tree : tree_of body ≡ Some root
  pub all : List (Result (Situation × ℕ) Fault)
  pub judged : situation_items.verdicts (schedule_at setting (moment ∷ moments_of arrivals)) root ≡ Ok all
  pub faultless : limited_verdicts (seen setting.table) all ≡ map Ok given
  pub passed_is : passed ≡ passed_count all
  pub room : NumbersHaveRoom (admitted_situations arrivals) given

-- a body is a feed without a fault, a full dataset, and its journeys have no more calls than a delivery may have
pub record IsSoundFeed (schedule : Schedule) (body : List ℕ) (one : Feed) : Type 0 where
  pub is_feed : IsFeed body one
  pub full : is_differential one ≡ false
  pub few : (calls : ℕ) → ¬ HasTooMany schedule one calls

-- ---- how a connection ends

-- the clock gave a connection this moment, and there is no cause for which an output may be cut short
pub record IsCalm (Cause : Type 0) (entry : Entry) (moment : ℤ) : Type 0 where
  pub calm : ¬ Cause
  pub timed : entry.moment ≡ Some moment

-- nor is there one for which keeping a body may fail, and this one isn't full
pub record IsUndisturbed (Cause Unkept : Type 0) (is_full : List ℕ → Bool) (entry : Entry) (moment : ℤ) (body : List ℕ)
    : Type 0 where
  pub calm : IsCalm Cause entry moment
  pub keeps : ¬ Unkept
  pub fits : is_full body ≡ false

-- an entry has this mark, and its output is just these bytes, the whole of them
abbrev pub EndsWith : Entry → Mark → List ℕ → Type 0
EndsWith entry ends bytes = (entry.mark ≡ ends) × (entry.output ≡ bytes)

-- there was no memory for what was posted, and just that was answered
abbrev pub WantsMemory : Entry → Type 0
WantsMemory entry = EndsWith entry mark.Memory (refused_with refusal.Memory)

-- the report on so many items, none of which is set aside
abbrev pub none_aside : ℕ → ℕ → Report
none_aside count passed = record { taken = count; passed = passed; aside = [] }

-- how a connection ends after what arrived before it: a delivery without a fault is taken and nothing of it is set
-- aside, and a full dataset without a fault is taken, or there was no memory for it; and the feed and the SIRI text are
-- shown, always with the whole answer
pub record CompletesBy (Cause Unkept : Type 0) (is_full : List ℕ → Bool) (setting : Setting) (arrivals : List Arrival)
    (entry : Entry) : Type 0 where
  pub journeys : (moment : ℤ) (body : List ℕ) (records : List Recorded) (passed : ℕ)
      → IsUndisturbed Cause Unkept is_full entry moment body → IsRequest entry.input (Post kind.Estimated body)
      → IsSoundDelivery setting arrivals moment body records passed
      → EndsWith entry mark.Taken (answer_of answer.Json (report_json (none_aside (length records) passed)))
      ⊎ WantsMemory entry
  pub situations : (moment : ℤ) (body : List ℕ) (given : List Situation) (passed : ℕ)
      → IsUndisturbed Cause Unkept is_full entry moment body → IsRequest entry.input (Post kind.Situations body)
      → IsSoundSituations setting arrivals moment body given passed
      → EndsWith entry mark.Taken (answer_of answer.Json (report_json (none_aside (length given) passed)))
      ⊎ WantsMemory entry
  pub feed : (moment : ℤ) (body : List ℕ) (one : Feed)
      → IsUndisturbed Cause Unkept is_full entry moment body → IsRequest entry.input (Post kind.Feed body)
      → IsSoundFeed (schedule_at setting (moment ∷ moments_of arrivals)) body one
      → ((report : Report) × TakesFeed setting arrivals moment body report one
      × EndsWith entry mark.Fed (answer_of answer.Json (report_json report))) ⊎ WantsMemory entry
  pub feed_shown : (moment : ℤ) → IsCalm Cause entry moment → IsRequest entry.input (Get resource.Feed)
      → (body : List ℕ) × IsFeedShown setting moment arrivals body
      × EndsWith entry mark.Shown (answer_of answer.Feed body)
  pub text_shown : (moment : ℤ) → IsCalm Cause entry moment → IsRequest entry.input (Get resource.Timetable)
      → (body : List ℕ) × IsLastSiri setting arrivals body × EndsWith entry mark.Shown (answer_of answer.Json body)

-- the same where bodies aren't kept
abbrev pub Completes : Type 0 → Setting → List Arrival → Entry → Type 0
Completes Cause setting arrivals entry = CompletesBy Cause ⊥ (λ body. false) setting arrivals entry
