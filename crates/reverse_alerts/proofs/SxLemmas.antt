-- What the delivery of a feed's alerts keeps.
use Rattle.std.proofs.Common.{◌≡◌, ℕ, ℤ, Bool, true, false, List, [], ◌∷◌, Option, Some, None, refl, sym, subst, if◌then◌else◌}
use Rattle.std.specs.List.{AllByRecursion, cons_option}
use Rattle.std.specs.Prelude.{All, IfSome, option_map}
use Rattle.std.proofs.lemmas.List.Elements.{All-from_recursion, recursion_from_All}
use Rattle.gw_base.specs.Moments.{IsMoment}
use Rattle.gw_base.specs.declared.messages.Alert.{Alert}
use Rattle.gw_base.specs.declared.messages.Entity.{Entity}
use Rattle.gw_base.specs.declared.messages.Feed.{Feed}
use Rattle.gw_base.specs.Chains.{unless_fault}
use Rattle.timetable.specs.Sound.{IsSound}
use Rattle.timetable.specs.Table.{Table}
use Rattle.journey_model.specs.Schedules.{Schedule}
use Rattle.journey_model.specs.declared.fault.Fault.{Fault}
use Rattle.journey_model.specs.declared.report.Report.{Report}
use Rattle.journey_model.specs.declared.situation.Situation.{Situation}
use Rattle.journey_model.specs.FeedReadings.{given}
use Rattle.reverse_alerts.specs.Again.{SaysAgain}
use Rattle.reverse_alerts.specs.Sayable.{HasUtf8}
use Rattle.reverse_alerts.specs.Senses.{sense}
use Rattle.reverse_alerts.specs.SituationTree.{delivery_text}
use Rattle.reverse_alerts.specs.Sx.{IsSx}
use Rattle.reverse_alerts.specs.Taken.{entity_verdict, fault_of, report_on, situation_of, situations, verdict}
use Rattle.reverse_alerts.specs.Texts.{HasTexts, SaysTexts}
use Rattle.reverse_alerts.proofs.SaidAgain.{says_again}
use Rattle.reverse_alerts.proofs.SensesAgain.{senses}

-- the texts of a situation are those of its entity
one_utf8 : (table : Table) (entity : Entity) (one : Situation) → HasTexts entity → given (entity_verdict table entity) ≡ Some one → HasUtf8 one
one_utf8 table entity one texts h = by entity.deleted entity.alert texts.1 h
  where
    by_fault : (alert : Alert) (fault : Option Fault) → SaysTexts alert → given (Some (unless_fault fault (situation_of entity.id (sense table alert)))) ≡ Some one → HasUtf8 one
    by_fault alert (Some fault) said h = absurd (cc)
    by_fault alert None said h = let same : situation_of entity.id (sense table alert) ≡ one = cc in subst HasUtf8 same (texts.0, said.0, said.1)

    by : (deleted : Bool) (alert : Option Alert) → IfSome alert SaysTexts
        → given (option_map (verdict table entity.id) (if deleted then None else alert)) ≡ Some one → HasUtf8 one
    by true alert said h = absurd (cc)
    by false None said h = absurd (cc)
    by false (Some alert) said h = by_fault alert (fault_of table entity.id alert) said h

in_front : (one : Option Situation) (others : List Situation) → ((s : Situation) → one ≡ Some s → HasUtf8 s) → AllByRecursion HasUtf8 others
    → AllByRecursion HasUtf8 (cons_option one others)
in_front None others first rest = rest
in_front (Some s) others first rest = (first s refl, rest)

each_utf8 : (table : Table) (entities : List Entity) → AllByRecursion HasTexts entities → AllByRecursion HasUtf8 (situations table entities)
each_utf8 table [] texts = tt
each_utf8 table (entity ∷ others) texts =
    in_front (given (entity_verdict table entity)) (situations table others) (λ one h. one_utf8 table entity one texts.0 h) (each_utf8 table others texts.1)

pub all_utf8 : (table : Table) (entities : List Entity) → All HasTexts entities → All HasUtf8 (situations table entities)
all_utf8 table entities texts =
    All-from_recursion HasUtf8 (situations table entities) (each_utf8 table entities (recursion_from_All HasTexts entities texts))

-- what was written is the delivery of the feed
pub is_sx : (schedule : Schedule) (feed : Feed) (moment : ℤ) (text : List ℕ) (report : Report) → IsSound schedule.table → IsMoment moment
    → All HasUtf8 (situations schedule.table feed.entities) → text ≡ delivery_text schedule.table moment (situations schedule.table feed.entities)
    → report ≡ report_on schedule.table feed.entities → IsSx schedule feed moment text report
is_sx schedule feed moment text report sound at texts is reports = record {
  reports = reports;
  is_text = is;
  again = subst (SaysAgain schedule (situations schedule.table feed.entities)) (sym is) (says_again schedule moment feed.entities sound at texts);
  senses = senses schedule.table feed.entities sound;
}
