-- What becomes of the items of a delivery of situations, one after the other, and what is to be put of them.
use Rattle.std.specs.Prelude.{◌≡◌, ℕ, Bool, List, map, sum_by, Option, Some, None, Result, Ok, Err, if◌then◌else◌, ⊤}
use Rattle.std.specs.Cmp.Lexicographic.{slice_cmp}
use Rattle.std.specs.Ordering.{nat_cmp}
use Rattle.std.specs.List.{AllByRecursion}
use Rattle.std.specs.Result.{result_err}
use Rattle.journey_model.specs.Schedules.{Schedule}
use Rattle.journey_model.specs.Situations.{AreKnown}
use Rattle.journey_model.specs.declared.fault.Fault.{Fault}
use Rattle.journey_model.specs.declared.report.Report.{Report}
use Rattle.journey_model.specs.declared.situation.Situation.{Situation}
use Rattle.serde_json.specs.Data.{Data}
use Rattle.siri_json.specs.Deliveries.{passed_count, passed_in, tree_of}
use Rattle.siri_json.specs.declared.delivery.DeliveryFault.{DeliveryFault}
use Rattle.siri_json.specs.declared.delivery.DeliveryFault.TheVariants.{NotJson, NotDelivery, Memory}
use Rattle.siri_situations.specs.Situations as judged
use Rattle.timetable.specs.Table.{Table}
use Rattle.gateway_core.specs.Deliveries.{taken}
use Rattle.feed_index.specs.Drafts.{Drafted, after}
use Rattle.gateway_core.specs.Standing.{IsAlertServed, KeepsSituations, SituationEntry, situation_entry, situation_seen}
use Rattle.gateway_core.specs.Steps.{SituationsAfter, situation_counts, situation_fits, situation_kept, with_situation}
use Rattle.gateway_core.specs.Taking.{limited_verdicts, report_on, situations_with_room}
use Rattle.gateway_core.specs.Tallied.{Tallied}
use Rattle.gateway_core.specs.declared.items.situations.SituationTaking.{SituationTaking}
use Rattle.gateway_core.specs.declared.items.tally.Tally.{Tally}
use Rattle.gateway_core.specs.declared.keys.Edition.{Edition}
use Rattle.gateway_core.specs.JourneySteps.{room_fault}

-- what an index of situations will be, as contracts see it
abbrev pub alerts_after : Drafted (List ℕ) Edition → List SituationEntry
alerts_after draft = map situation_seen (after (slice_cmp nat_cmp) draft)

-- whether a situation counts, where it has room
abbrev pub situation_verdict : List SituationEntry → Situation → Option Bool
situation_verdict entries one =
    if situation_fits entries one then Some (situation_counts (situation_kept entries one) one) else None

-- with a situation's alert at its number
abbrev pub with_alert : Table → List SituationEntry → Situation → List SituationEntry
with_alert table entries one = with_situation entries (situation_entry table one)

-- what is kept after a situation that counts or doesn't
abbrev pub after_situation : Table → List SituationEntry → Situation → Option Bool → List SituationEntry
after_situation table entries one None = entries
after_situation table entries one (Some counts) = if counts then with_alert table entries one else entries

-- what is kept after a verdict, and why its item is set aside, if it is
abbrev pub verdict_step : Table → List SituationEntry → Result Situation Fault → List SituationEntry
verdict_step table entries (Ok one) = after_situation table entries one (situation_verdict entries one)
verdict_step table entries (Err fault) = entries

abbrev pub verdict_fault : List SituationEntry → Result Situation Fault → Option Fault
verdict_fault entries (Ok one) = room_fault (situation_verdict entries one)
verdict_fault entries (Err fault) = Some fault

-- a situation that is taken has an alert that means it, and isn't too long
abbrev pub IsVerdictServed : Table → Result Situation Fault → Type 0
IsVerdictServed table (Ok one) = IsAlertServed table one
IsVerdictServed table (Err fault) = ⊤

-- after some items of a delivery with these verdicts: what is kept, and what is counted
pub record GathersSituations (table : Table) (before : List Situation) (all : List (Result (Situation × ℕ) Fault))
    (entries : List SituationEntry) (tally : Tally) : Type 0 where
  pub entries_are : SituationsAfter table before (limited_verdicts table all) entries
  pub tally_is : Tallied (map result_err (situations_with_room before (limited_verdicts table all)))
      (sum_by passed_in all) tally

-- what takes situations took items with these verdicts, each of which refers to what is there: over what is kept then
pub record HasTaken (schedule : Schedule) (first now : SituationTaking) (all : List (Result (Situation × ℕ) Fault))
    : Type 0 where
  pub kept_is : now.draft.kept ≡ first.draft.kept
  pub known : AllByRecursion (λ one. AreKnown schedule.table one.refs) (taken (limited_verdicts schedule.table all))
  pub gathers : (before : List Situation) → KeepsSituations schedule.table before (alerts_after first.draft)
      → GathersSituations schedule.table before all (alerts_after now.draft) now.tally

-- a body's items are taken over those that were admitted before: what is kept then, and the report
pub record TakesBody (schedule : Schedule) (before : List Situation) (body : List ℕ) (entries : List SituationEntry)
    (report : Report) : Type 0 where
  pub root : Data
  pub is_tree : tree_of body ≡ Some root
  pub all : List (Result (Situation × ℕ) Fault)
  pub verdicts_are : judged.verdicts schedule root ≡ Ok all
  pub known : AllByRecursion (λ one. AreKnown schedule.table one.refs) (taken (limited_verdicts schedule.table all))
  pub entries_are : SituationsAfter schedule.table before (limited_verdicts schedule.table all) entries
  pub report_is : report
      ≡ report_on (situations_with_room before (limited_verdicts schedule.table all)) (passed_count all)

-- why a body is refused; want of memory is free
abbrev pub IsRefused : Schedule → List ℕ → DeliveryFault → Type 0
IsRefused schedule body NotJson = tree_of body ≡ None
IsRefused schedule body (NotDelivery member) =
    (root : Data) × (tree_of body ≡ Some root) × (judged.verdicts schedule root ≡ Err member)
IsRefused schedule body Memory = ⊤
