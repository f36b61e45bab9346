-- The served situations of a whole body come back from the feed of their alerts.
use Rattle.std.proofs.Common.{◌≡◌, ◌∙◌, ◌∷◌, ℕ, ℤ, List, [], Bool, true, false, map, Option, Some, None, Result, Ok, Err, refl, sym, ap}
use Rattle.std.specs.Prelude.{if◌then◌else◌}
use Rattle.std.specs.List.{AllByRecursion, cons_option, filter_map}
use Rattle.gw_base.specs.Chains.{◌>>=◌}
use Rattle.gw_base.specs.declared.member.Member.{Member}
use Rattle.gw_base.specs.declared.messages.Feed.{Feed}
use Rattle.timetable.specs.Sound.{IsSound}
use Rattle.timetable.specs.Table.{Table}
use Rattle.journey_model.specs.FeedReadings.{given, given_all}
use Rattle.journey_model.specs.Schedules.{Schedule}
use Rattle.journey_model.specs.declared.fault.Fault.{Fault}
use Rattle.journey_model.specs.declared.report.Report.{Report}
use Rattle.journey_model.specs.declared.situation.Situation.{Situation}
use Rattle.serde_json.specs.Data.{Data}
use Rattle.siri_json.specs.Deliveries.{HasVerdicts, Reads, ReadsTree, shown, tree_of, without_count}
use Rattle.siri_json.specs.declared.delivery.Delivery.{Delivery}
use Rattle.siri_json.specs.declared.delivery.Item.{Item}
use Rattle.siri_json.specs.declared.delivery.Item.TheVariants.{Taken, Aside}
use Rattle.siri_situations.specs.Deliveries.{ReadsSituations, same}
use Rattle.siri_situations.specs.Frame.{items}
use Rattle.siri_situations.specs.Situations.{verdict, verdicts}
use Rattle.alert_map.specs.Alerts.{alert, alert_message}
use Rattle.reverse_alerts.specs.Again.{ComesBack, SaysAlertsOf, served, served_in}
use Rattle.reverse_alerts.specs.Sx.{IsSx}
use Rattle.reverse_alerts.specs.Taken.{entity_verdict, situations}
use Rattle.reverse_alerts.proofs.ComesBack.{comes_back}

-- ---- each served situation was read

first_is : {A B : Type 0} (one other : Result A B) (rest others : List (Result A B)) → one ∷ rest ≡ other ∷ others → (one ≡ other) × (rest ≡ others)
first_is one other rest others e = (cc, cc)

-- a situation that was taken has its verdict
verdict_of : (one : Situation) (told : Result (Situation × ℕ) Fault) → Ok one ≡ without_count told → (unknown : ℕ) × (told ≡ Ok (one, unknown))
verdict_of one (Ok found) e = let same : one ≡ found.0 = cc in (found.1, ap (λ (it : Situation). Ok (it, found.1)) (sym same))
verdict_of one (Err fault) e = absurd cc

module _ (schedule : Schedule) (sound : IsSound schedule.table) where
  served_back : (one : Situation) (rest : List (Item Situation)) → ComesBack schedule.table one → AllByRecursion (ComesBack schedule.table) (filter_map served_in rest)
      → AllByRecursion (ComesBack schedule.table) (filter_map served_in (Taken one ∷ rest))
  served_back one rest back others = by one.served
    where
      by : (shows : Bool) → AllByRecursion (ComesBack schedule.table) (cons_option (if shows then Some one else None) (filter_map served_in rest))
      by true = (back, others)
      by false = others

  each_back : (all : List (Item Situation)) (trees : List Data) → map (shown same) all ≡ map without_count (map (verdict schedule) trees)
      → AllByRecursion (ComesBack schedule.table) (filter_map served_in all)
  each_back [] trees e = tt
  each_back (item ∷ all) [] e = absurd cc
  each_back (Aside fault ∷ all) (tree ∷ trees) e =
      each_back all trees (first_is (Err fault) (without_count (verdict schedule tree)) (map (shown same) all) (map without_count (map (verdict schedule) trees)) e).1
  each_back (Taken one ∷ all) (tree ∷ trees) e =
      let parts = first_is (Ok one) (without_count (verdict schedule tree)) (map (shown same) all) (map without_count (map (verdict schedule) trees)) e in
      let found = verdict_of one (verdict schedule tree) parts.0 in
      served_back one all (comes_back schedule tree one found.0 sound found.1) (each_back all trees parts.1)

  -- the situations of a body that was read
  all_back : (delivery : Delivery Situation) (body : List ℕ) → ReadsSituations schedule body (Ok delivery) → AllByRecursion (ComesBack schedule.table) (served delivery.items)
  all_back delivery body reads = by (tree_of body) reads
    where
      of_items : (found : Result (List Data) Member) → ReadsTree (HasVerdicts same) (found >>= (λ trees. Ok (map (verdict schedule) trees))) (Ok delivery) → AllByRecursion (ComesBack schedule.table) (served delivery.items)
      of_items (Ok trees) has = each_back delivery.items trees has.items_are
      of_items (Err member) has = absurd has

      by : (tree : Option Data) → Reads (HasVerdicts same) (verdicts schedule) tree (Ok delivery) → AllByRecursion (ComesBack schedule.table) (served delivery.items)
      by None told = absurd told
      by (Some root) told = of_items (items root) told

-- ---- and comes back from the entity of its alert

alerts_back : (table : Table) (all : List Situation) → AllByRecursion (ComesBack table) all
    → map (alert table) (given_all (map (entity_verdict table) (map (alert_message table) all))) ≡ map (alert table) all
alerts_back table [] backs = refl
alerts_back table (one ∷ all) (back, backs) =
    ap (λ told. map (alert table) (filter_map given (told ∷ map (entity_verdict table) (map (alert_message table) all)))) back.is_taken
    ∙ (λ i. back.same i ∷ alerts_back table all backs i)

pub whole_again : (schedule : Schedule) → IsSound schedule.table → (body : List ℕ) (delivery : Delivery Situation) (feed : Feed) (moment : ℤ) (text : List ℕ) (report : Report)
    → ReadsSituations schedule body (Ok delivery) → feed.entities ≡ map (alert_message schedule.table) (served delivery.items)
    → IsSx schedule feed moment text report → SaysAlertsOf schedule (served delivery.items) text
whole_again schedule sound body delivery feed moment text report reads is says = record {
  back = situations schedule.table feed.entities;
  again = says.again;
  same =
      ap (λ entities. map (alert schedule.table) (situations schedule.table entities)) is
      ∙ alerts_back schedule.table (served delivery.items) (all_back schedule sound delivery body reads);
}
