-- What a gateway answers to a body that is taken or refused, and what it stands for then (SIRI 2.0, ServiceDelivery;
-- GTFS Realtime, FeedMessage).
use Rattle.std.specs.Prelude.{◌≡◌, ℕ, ℤ, Bool, false, nat_le, List, [], ◌∷◌, ◌++◌, codes, decimal, map, Some, None, Result, Ok, Err, is_none, if◌then◌else◌, ⊤}
use Rattle.std.specs.List.{count_by}
use Rattle.std.specs.Result.{result_err}
use Rattle.gw_base.specs.declared.messages.Feed.{Feed}
use Rattle.journey_model.specs.FaultTexts.{fault_text}
use Rattle.journey_model.specs.FeedReadings.{is_differential}
use Rattle.journey_model.specs.Records.{Recorded}
use Rattle.journey_model.specs.declared.fault.Fault.{Fault}
use Rattle.journey_model.specs.declared.fault.Fault.TheVariants.{EntityTooLong, Full}
use Rattle.journey_model.specs.declared.report.Report.{Report}
use Rattle.journey_model.specs.declared.situation.Situation.{Situation}
use Rattle.serde_json.specs.Data.{Data}
use Rattle.siri_calls.specs.Verdicts as journey_items
use Rattle.siri_json.specs.Deliveries.{passed_count, tree_of, without_count}
use Rattle.siri_situations.specs.Situations as situation_verdicts
use Rattle.timetable.specs.Seen.{seen}
use Rattle.reverse_calls.specs.Siri.{IsSiri}
use Rattle.gateway_core.specs.Alerts.{alert_len, alert_limit}
use Rattle.timetable.specs.Table.{Table}
use Rattle.service_day.specs.Windows.{DayStarts}
use Rattle.gateway_core.specs.Arrivals.{Arrival, Given, admitted, admitted_situations, always, feed, has_room, is_same_journey, is_same_number, is_within, journeys, moments_of, most_journeys, most_numbers, schedule_at, situations, window_at}
use Rattle.gateway_core.specs.Deliveries.{taken}
use Rattle.gateway_core.specs.FeedTexts.{IsFeed, IsRefusedFeed}
use Rattle.gateway_core.specs.declared.accepted.Accepted.{Accepted}
use Rattle.gateway_core.specs.declared.accepted.FeedRefusal.{FeedRefusal}
use Rattle.gateway_core.specs.declared.setting.Setting.{Setting}
use Rattle.siri_json.specs.declared.delivery.DeliveryFault.{DeliveryFault}
use Rattle.siri_json.specs.declared.delivery.DeliveryFault.TheVariants.{NotJson, NotDelivery, Memory}
use Rattle.journey_model.specs.Reports.{aside_from}
use Rattle.gateway_core.specs.Standing.{Kept, Stands}

-- ---- reports

-- the report on verdicts in the order of their items: how many are taken, and each that is set aside with its number
-- and its fault
abbrev pub report_on : {A : Type 0} → List (Result A Fault) → ℕ → Report
report_on verdicts passed = record {
  taken = count_by is_none (map result_err verdicts);
  passed = passed;
  aside = aside_from 0 (map result_err verdicts);
}

-- `{"fault":"TEXT","index":I}`
abbrev pub aside_json : ℕ × Fault → List ℕ
aside_json aside = codes "{\"fault\":\"" ++ fault_text aside.1 ++ codes "\",\"index\":" ++ decimal aside.0 ++ codes "}"

-- the texts, joined by commas
abbrev pub joined : List (List ℕ) → List ℕ
joined [] = []
joined (text ∷ []) = text
joined (text ∷ other ∷ others) = text ++ codes "," ++ joined (other ∷ others)

-- `{"aside":[A],"passed":P,"taken":T}`
abbrev pub report_json : Report → List ℕ
report_json report =
    codes "{\"aside\":[" ++ joined (map aside_json report.aside)
    ++ codes "],\"passed\":" ++ decimal report.passed ++ codes ",\"taken\":" ++ decimal report.taken ++ codes "}"

-- ---- what is full

-- verdicts, of which one is set aside as Full that has no room when it arrives
abbrev pub with_room : {A : Type 0} → (A → A → Bool) → (A → Bool) → ℕ → List A → List (Result A Fault)
    → List (Result A Fault)
with_room is_same counts limit before [] = []
with_room is_same counts limit before (Err fault ∷ others) = Err fault ∷ with_room is_same counts limit before others
with_room is_same counts limit before (Ok one ∷ others) =
    if has_room is_same counts limit before one
    then Ok one ∷ with_room is_same counts limit (before ++ one ∷ []) others
    else Err Full ∷ with_room is_same counts limit before others

-- the records of a delivery's verdicts, and those that have room after some arrivals
abbrev pub journeys_with_room : DayStarts → List Recorded → List (Result Recorded Fault) → List (Result Recorded Fault)
journeys_with_room window before verdicts = with_room is_same_journey (is_within window) most_journeys before verdicts

abbrev pub situations_with_room : List Situation → List (Result Situation Fault) → List (Result Situation Fault)
situations_with_room before verdicts = with_room is_same_number always most_numbers before verdicts

-- the verdicts on situations, of which one is set aside that has too long an alert
abbrev pub limited_verdict : Table → Result Situation Fault → Result Situation Fault
limited_verdict table (Ok one) =
    if nat_le (alert_len table one) alert_limit then Ok one else Err (EntityTooLong (alert_len table one))
limited_verdict table (Err fault) = Err fault

abbrev pub limited_verdicts : Table → List (Result (Situation × ℕ) Fault) → List (Result Situation Fault)
limited_verdicts table all = map (limited_verdict table) (map without_count all)

-- ---- what is taken

-- a delivery of journeys arrives at a moment after these arrivals: each item is judged over the window of that moment,
-- and one without room is set aside; it gives these records, and this is the report
pub record TakesJourneys (setting : Setting) (arrivals : List Arrival) (moment : ℤ) (body : List ℕ) (report : Report)
    (records : List Recorded) : Type 0 where
  pub root : Data
  pub is_tree : tree_of body ≡ Some root
  pub all : List (Result (Recorded × ℕ) Fault)
  pub judged : journey_items.verdicts (schedule_at setting (moment ∷ moments_of arrivals)) root ≡ Ok all
  pub records_are : records ≡ taken (map without_count all)
  pub report_is : report ≡ report_on (journeys_with_room (window_at setting (moment ∷ moments_of arrivals))
      (admitted setting arrivals) (map without_count all)) (passed_count all)

-- the same of a delivery of situations, of which those with too long an alert are set aside first
pub record TakesSituations (setting : Setting) (arrivals : List Arrival) (moment : ℤ) (body : List ℕ) (report : Report)
    (given : List Situation) : Type 0 where
  pub root : Data
  pub is_tree : tree_of body ≡ Some root
  pub all : List (Result (Situation × ℕ) Fault)
  pub judged : situation_verdicts.verdicts (schedule_at setting (moment ∷ moments_of arrivals)) root ≡ Ok all
  pub given_are : given ≡ taken (limited_verdicts (seen setting.table) all)
  pub report_is : report ≡ report_on (situations_with_room (admitted_situations arrivals)
      (limited_verdicts (seen setting.table) all)) (passed_count all)

-- the same of a feed, which is a full dataset without a fault
pub record TakesFeed (setting : Setting) (arrivals : List Arrival) (moment : ℤ) (body : List ℕ) (report : Report)
    (given : Feed) : Type 0 where
  pub is_feed : IsFeed body given
  pub full : is_differential given ≡ false
  pub text : List ℕ
  pub siri : IsSiri (schedule_at setting (moment ∷ moments_of arrivals)) given moment text report

-- ---- what is answered

-- a gateway has the setting that it had, and stands for one arrival more
pub record Follows (kept : Kept) (arrivals : List Arrival) (moment : ℤ) (gives : Given) (now : Kept) : Type 0 where
  pub setting_is : now.setting ≡ kept.setting
  pub stands : Stands now (record { moment = moment; gives = gives } ∷ arrivals)

-- what a gateway answers to a delivery of journeys, and what it stands for then; want of memory is free
abbrev pub JourneysAnswer : Kept → List Arrival → ℤ → List ℕ → Result Accepted DeliveryFault → Kept → Type 0
JourneysAnswer kept arrivals moment body (Ok accepted) now =
    (records : List Recorded) × TakesJourneys kept.setting arrivals moment body accepted.report records
    × Follows kept arrivals moment (journeys records) now
JourneysAnswer kept arrivals moment body (Err NotJson) now = tree_of body ≡ None
JourneysAnswer kept arrivals moment body (Err (NotDelivery member)) now =
    (root : Data) × (tree_of body ≡ Some root) × (journey_items.verdicts
    (schedule_at kept.setting (moment ∷ moments_of arrivals)) root ≡ Err member)
JourneysAnswer kept arrivals moment body (Err Memory) now = ⊤

abbrev pub SituationsAnswer : Kept → List Arrival → ℤ → List ℕ → Result Accepted DeliveryFault → Kept → Type 0
SituationsAnswer kept arrivals moment body (Ok accepted) now =
    (given : List Situation) × TakesSituations kept.setting arrivals moment body accepted.report given
    × Follows kept arrivals moment (situations given) now
SituationsAnswer kept arrivals moment body (Err NotJson) now = tree_of body ≡ None
SituationsAnswer kept arrivals moment body (Err (NotDelivery member)) now =
    (root : Data) × (tree_of body ≡ Some root) × (situation_verdicts.verdicts
    (schedule_at kept.setting (moment ∷ moments_of arrivals)) root ≡ Err member)
SituationsAnswer kept arrivals moment body (Err Memory) now = ⊤

-- what it answers to a feed: the first fault of its bytes, then that it is differential, then that it has too many
-- calls
abbrev pub FeedAnswer : Kept → List Arrival → ℤ → List ℕ → Result Accepted FeedRefusal → Kept → Type 0
FeedAnswer kept arrivals moment body (Ok accepted) now =
    (given : Feed) × TakesFeed kept.setting arrivals moment body accepted.report given
    × Follows kept arrivals moment (feed given) now
FeedAnswer kept arrivals moment body (Err why) now =
    IsRefusedFeed (schedule_at kept.setting (moment ∷ moments_of arrivals)) body why
