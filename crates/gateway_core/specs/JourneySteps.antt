-- What becomes of the items of a delivery of journeys, one after the other, and what is to be put of them.
use Rattle.std.specs.Prelude.{◌≡◌, ℕ, Bool, true, false, List, filter, map, sum_by, Option, Some, None, Result, Ok, Err, ⊤, if◌then◌else◌}
use Rattle.std.specs.Result.{result_err}
use Rattle.std.specs.declared.cmp.Ordering.{Ordering}
use Rattle.journey_model.specs.Records.{Recorded}
use Rattle.journey_model.specs.Schedules.{Schedule}
use Rattle.journey_model.specs.declared.fault.Fault.{Fault}
use Rattle.journey_model.specs.declared.fault.Fault.TheVariants.{Full}
use Rattle.journey_model.specs.declared.readings.JourneyRecord.{JourneyRecord}
use Rattle.journey_model.specs.declared.report.Report.{Report}
use Rattle.service_day.specs.declared.moments.Instant.{Instant}
use Rattle.serde_json.specs.Data.{Data}
use Rattle.siri_json.specs.Deliveries.{passed_count, passed_in, tree_of, without_count}
use Rattle.siri_calls.specs.Verdicts.{verdicts}
use Rattle.siri_json.specs.declared.delivery.DeliveryFault.{DeliveryFault}
use Rattle.siri_json.specs.declared.delivery.DeliveryFault.TheVariants.{NotJson, NotDelivery, Memory}
use Rattle.gateway_core.specs.Arrivals.{CanBeServed, is_within, journeys}
use Rattle.gateway_core.specs.Deliveries.{taken}
use Rattle.feed_index.specs.Drafts.{Drafted, after}
use Rattle.gateway_core.specs.Standing.{IsServed, JourneyEntry, KeepsJourneys, journey_entry, journey_seen}
use Rattle.gateway_core.specs.Steps.{JourneysAfter, journey_counts, journey_fits, journey_kept, with_journey}
use Rattle.gateway_core.specs.Taking.{journeys_with_room, report_on}
use Rattle.gateway_core.specs.Tallied.{Tallied}
use Rattle.gateway_core.specs.Winners.{AreServable}
use Rattle.gateway_core.specs.declared.items.journeys.JourneyTaking.{JourneyTaking}
use Rattle.gateway_core.specs.declared.items.tally.Tally.{Tally}
use Rattle.gateway_core.specs.declared.keys.JourneyKey.{JourneyKey}
use Rattle.gateway_core.specs.contracts.keys.JourneyKeyOrd.TheImpl as derived

-- journeys are ordered as their keys derive it: by service day, then trip number
abbrev pub key_order : JourneyKey → JourneyKey → Ordering
key_order = (derived.ghosts).cmp

-- what an index of journeys will be, as contracts see it
abbrev pub seen_after : Drafted JourneyKey Instant → List JourneyEntry
seen_after draft = map journey_seen (after key_order draft)

-- the journey of a record
abbrev pub journey_of : JourneyRecord → JourneyKey
journey_of one = record { day = one.day; trip = one.trip }

-- whether a record counts, where it has room
abbrev pub journey_verdict : List JourneyEntry → Recorded → Option Bool
journey_verdict entries one =
    if journey_fits entries one then Some (journey_counts (journey_kept entries one) one) else None

-- what is kept after a verdict on a record
abbrev pub after_verdict : Schedule → List JourneyEntry → Recorded → Option Bool → List JourneyEntry
after_verdict schedule entries one None = entries
after_verdict schedule entries one (Some counts) =
    if counts then with_journey entries (journey_entry schedule one) else entries

-- where a record was put its bytes say it
abbrev pub IsPut : Schedule → Recorded → Option Bool → Type 0
IsPut schedule one None = ⊤
IsPut schedule one (Some false) = ⊤
IsPut schedule one (Some true) = IsServed schedule one

-- why a record isn't taken, and a situation: there is no room for it
abbrev pub room_fault : Option Bool → Option Fault
room_fault None = Some Full
room_fault (Some counts) = None

-- what is kept after a verdict on an item, and why the item is set aside, if it is
abbrev pub verdict_step : Schedule → List JourneyEntry → Result Recorded Fault → List JourneyEntry
verdict_step schedule entries (Ok one) = after_verdict schedule entries one (journey_verdict entries one)
verdict_step schedule entries (Err fault) = entries

abbrev pub verdict_fault : List JourneyEntry → Result Recorded Fault → Option Fault
verdict_fault entries (Ok one) = room_fault (journey_verdict entries one)
verdict_fault entries (Err fault) = Some fault

abbrev pub IsVerdictPut : Schedule → List JourneyEntry → Result Recorded Fault → Type 0
IsVerdictPut schedule entries (Ok one) = IsPut schedule one (journey_verdict entries one)
IsVerdictPut schedule entries (Err fault) = ⊤

-- after some items of a delivery with these verdicts: what is kept, and what is counted
pub record GathersJourneys (schedule : Schedule) (before : List Recorded) (all : List (Result (Recorded × ℕ) Fault))
    (entries : List JourneyEntry) (tally : Tally) : Type 0 where
  pub entries_are : JourneysAfter schedule before (map without_count all) entries
  pub tally_is : Tallied (map result_err (journeys_with_room schedule.window before (map without_count all)))
      (sum_by passed_in all) tally

-- what takes journeys took items with these verdicts, each of which can be served: over what is kept then
pub record HasTaken (schedule : Schedule) (first now : JourneyTaking) (all : List (Result (Recorded × ℕ) Fault))
    : Type 0 where
  pub kept_is : now.draft.kept ≡ first.draft.kept
  pub servable : AreServable schedule (taken (map without_count all))
  pub gathers : (before : List Recorded) → KeepsJourneys schedule (filter (is_within schedule.window) before)
      (seen_after first.draft) → GathersJourneys schedule before all (seen_after now.draft) now.tally

-- what a body makes before anything changes: the report, and what will be kept
pub record MakesJourneys (schedule : Schedule) (before : List Recorded) (body : List ℕ)
    (report : Report) (entries : List JourneyEntry) : Type 0 where
  pub root : Data
  pub is_tree : tree_of body ≡ Some root
  pub all : List (Result (Recorded × ℕ) Fault)
  pub judged : verdicts schedule root ≡ Ok all
  pub servable : CanBeServed schedule (journeys (taken (map without_count all)))
  pub entries_are : JourneysAfter schedule before (map without_count all) entries
  pub report_is : report
      ≡ report_on (journeys_with_room schedule.window before (map without_count all)) (passed_count all)

-- why a body makes nothing; want of memory is free
abbrev pub RefusesJourneys : Schedule → List ℕ → DeliveryFault → Type 0
RefusesJourneys schedule body NotJson = tree_of body ≡ None
RefusesJourneys schedule body (NotDelivery member) =
    (root : Data) × (tree_of body ≡ Some root) × (verdicts schedule root ≡ Err member)
RefusesJourneys schedule body Memory = ⊤
