-- What a delivery of journeys makes, and what a gateway answers to it.
use Rattle.std.proofs.Common.{◌≡◌, ◌∙◌, ◌∷◌, [], ℕ, ℤ, List, map, drop, ap, sym, refl, subst, Option, Some, None, Result, Ok, Err}
use Rattle.std.specs.Prelude.{filter}
use Rattle.gw_base.specs.declared.member.Member.{Member}
use Rattle.journey_model.specs.Records.{Recorded}
use Rattle.journey_model.specs.Schedules.{Schedule, schedule_from}
use Rattle.journey_model.specs.declared.fault.Fault.{Fault}
use Rattle.journey_model.specs.declared.report.Report.{Report}
use Rattle.serde_json.specs.Data.{Data}
use Rattle.siri_json.specs.Deliveries.{Reads, ReadsTree, passed_count, tree_of, without_count}
use Rattle.siri_calls.specs.Verdicts.{verdicts}
use Rattle.siri_json.specs.declared.delivery.DeliveryFault.{DeliveryFault}
use Rattle.siri_json.specs.declared.delivery.DeliveryFault.TheVariants.{NotJson, NotDelivery, Memory}
use Rattle.service_day.specs.Windows.{DayStarts}
use Rattle.service_day.specs.declared.moments.Instant.{Instant}
use Rattle.feed_index.specs.Entries.{put_all}
use Rattle.feed_index.specs.declared.entry.Entry.{Entry}
use Rattle.gateway_core.specs.Arrivals.{Arrival, admitted, is_within, moments_of, schedule_at, window_at}
use Rattle.gateway_core.specs.Deliveries.{schedule_over, taken}
use Rattle.feed_index.specs.Drafts.{Drafted, after}
use Rattle.gateway_core.specs.JourneySteps.{HasTaken, MakesJourneys, RefusesJourneys, key_order, seen_after}
use Rattle.gateway_core.specs.Standing.{JourneyEntry, Kept, KeepsJourneys, Stands, journey_seen}
use Rattle.gateway_core.specs.Steps.{JourneysAfter}
use Rattle.gateway_core.specs.Taking.{JourneysAnswer, journeys_with_room, report_on}
use Rattle.gateway_core.specs.Tallied.{Tallied, report_of}
use Rattle.gateway_core.specs.Winners.{AreServable}
use Rattle.gateway_core.specs.declared.accepted.Accepted.{Accepted}
use Rattle.gateway_core.specs.declared.items.journeys.JourneyTaking.{JourneyTaking}
use Rattle.gateway_core.specs.declared.keys.JourneyKey.{JourneyKey}
use Rattle.gateway_core.specs.declared.setting.Setting.{Setting}
use Rattle.gateway_core.proofs.SeenLemmas.{journeys_drop}
use Rattle.gateway_core.proofs.StandingLemmas.{stands_journeys}

-- ---- what a body makes

-- what verdicts make: what is kept, and the report
pub record Makes (schedule : Schedule) (before : List Recorded) (all : List (Result (Recorded × ℕ) Fault)) (report : Report) (entries : List JourneyEntry) : Type 0 where
  pub servable : AreServable schedule (taken (map without_count all))
  pub entries_are : JourneysAfter schedule before (map without_count all) entries
  pub report_is : report ≡ report_on (journeys_with_room schedule.window before (map without_count all)) (passed_count all)

module _ (schedule : Schedule) (body : List ℕ) {D : Type 0} (StandsFor : D → List (Result (Recorded × ℕ) Fault) → Type 0) where
  -- of a delivery whose journeys were taken, when it stands for them
  pub journeys_made : (before : List Recorded) (given : D) (report : Report) (entries : List JourneyEntry)
      → ((all : List (Result (Recorded × ℕ) Fault)) → StandsFor given all → Makes schedule before all report entries)
      → Reads StandsFor (verdicts schedule) (tree_of body) (Ok given) → MakesJourneys schedule before body report entries
  journeys_made before given report entries makes reads = by (tree_of body) refl reads
    where
      by : (tree : Option Data) → tree_of body ≡ tree → Reads StandsFor (verdicts schedule) tree (Ok given) → MakesJourneys schedule before body report entries
      by None e h = absurd h
      by (Some root) e h = at (verdicts schedule root) refl h
        where
          at : (answer : Result (List (Result (Recorded × ℕ) Fault)) Member) → verdicts schedule root ≡ answer → ReadsTree StandsFor answer (Ok given)
              → MakesJourneys schedule before body report entries
          at (Ok all) f has =
              let makes = makes all has in
              record {
                root = root;
                is_tree = e;
                all = all;
                judged = f;
                servable = record { servable = makes.servable; known = tt };
                entries_are = makes.entries_are;
                report_is = makes.report_is;
              }
          at (Err member) f has = absurd has

  -- of one that was refused
  pub journeys_refused : (fault : DeliveryFault) → Reads StandsFor (verdicts schedule) (tree_of body) (Err fault) → RefusesJourneys schedule body fault
  journeys_refused fault reads = by (tree_of body) refl fault reads
    where
      by : (tree : Option Data) → tree_of body ≡ tree → (fault : DeliveryFault) → Reads StandsFor (verdicts schedule) tree (Err fault) → RefusesJourneys schedule body fault
      by None e NotJson h = e
      by None e (NotDelivery member) h = absurd h
      by None e Memory h = tt
      by (Some root) e fault h = at (verdicts schedule root) refl fault h
        where
          at : (answer : Result (List (Result (Recorded × ℕ) Fault)) Member) → verdicts schedule root ≡ answer → (fault : DeliveryFault) → ReadsTree StandsFor answer (Err fault)
              → RefusesJourneys schedule body fault
          at (Ok all) f NotJson has = absurd cc
          at (Ok all) f (NotDelivery member) has = absurd cc
          at (Ok all) f Memory has = tt
          at (Err member) f NotJson has = absurd has
          at (Err member) f (NotDelivery told) has = (root, e, f ∙ ap (λ (m : Member). Err m) (sym has))
          at (Err member) f Memory has = tt

-- what was taken, and is reported on
pub taking_makes : (schedule : Schedule) (before : List Recorded) (first now : JourneyTaking) (report : Report) (all : List (Result (Recorded × ℕ) Fault))
    → KeepsJourneys schedule (filter (is_within schedule.window) before) (seen_after first.draft)
    → ((faults : List (Option Fault)) (sum : ℕ) → Tallied faults sum now.tally → report ≡ report_of faults sum)
    → HasTaken schedule first now all → Makes schedule before all report (seen_after now.draft)
taking_makes schedule before first now report all keeps reported h =
    let gathered = h.gathers before keeps in
    record { servable = h.servable; entries_are = gathered.entries_are; report_is = reported _ _ gathered.tally_is }

-- ---- what is to be put

-- over what is left of an index
pub seen_over : (draft : Drafted JourneyKey Instant) (kept : List (Entry JourneyKey Instant)) → draft.kept ≡ kept → draft.items ≡ [] → seen_after draft ≡ map journey_seen kept
seen_over draft kept kept_is none =
    ap (λ (items : List (Entry JourneyKey Instant)). map journey_seen (put_all key_order draft.kept items)) none ∙ ap (map journey_seen) kept_is

-- and what is to be put of all that was
pub seen_put : (draft : Drafted JourneyKey Instant) (kept batch : List (Entry JourneyKey Instant)) → draft.kept ≡ kept
    → put_all key_order draft.kept batch ≡ after key_order draft → seen_after draft ≡ map journey_seen (put_all key_order kept batch)
seen_put draft kept batch kept_is is =
    ap (map journey_seen) (sym is) ∙ ap (λ (first : List (Entry JourneyKey Instant)). map journey_seen (put_all key_order first batch)) kept_is

-- ---- what a gateway answers

module _ (old now : Kept) (arrivals : List Arrival) (moment : ℤ) (body : List ℕ) where
  accepts : (accepted : Accepted) → Stands old arrivals → MakesJourneys (schedule_at old.setting (moment ∷ moments_of arrivals)) (admitted old.setting arrivals) body accepted.report now.journeys
      → now.setting ≡ old.setting → now.window ≡ window_at old.setting (moment ∷ moments_of arrivals) → now.situations ≡ old.situations → now.text ≡ old.text
      → JourneysAnswer old arrivals moment body (Ok accepted) now
  accepts accepted h makes setting window alerts text = (
    taken (map without_count makes.all),
    record { root = makes.root; is_tree = makes.is_tree; all = makes.all; judged = makes.judged; records_are = refl; report_is = makes.report_is },
    record { setting_is = setting; stands = stands_journeys old now arrivals moment (map without_count makes.all) h makes.servable setting window makes.entries_are alerts text },
  )

  -- the context of a window that rolled
  module _ (setting : Setting) (window : DayStarts) (setting_is : setting ≡ old.setting) (rolls : window ≡ window_at old.setting (moment ∷ moments_of arrivals)) where
    same : schedule_over setting window ≡ schedule_at old.setting (moment ∷ moments_of arrivals)
    same = λ i. schedule_from ((setting_is i).table) ((setting_is i).zone) (rolls i)

    pub journeys_accepted : (accepted : Accepted) (entries batch : List (Entry JourneyKey Instant)) (gone : ℕ) → Stands old arrivals
        → old.journeys ≡ map journey_seen entries
        → KeepsJourneys (schedule_at old.setting (moment ∷ moments_of arrivals))
        (filter (is_within (window_at old.setting (moment ∷ moments_of arrivals))) (admitted old.setting arrivals)) (drop gone old.journeys)
        → ((before : List Recorded)
        → KeepsJourneys (schedule_over setting window) (filter (is_within window) before) (map journey_seen (drop gone entries))
        → MakesJourneys (schedule_over setting window) before body accepted.report (map journey_seen (put_all key_order (drop gone entries) batch)))
        → now.setting ≡ setting → now.window ≡ window → now.journeys ≡ map journey_seen (put_all key_order (drop gone entries) batch)
        → now.situations ≡ old.situations → now.text ≡ old.text
        → JourneysAnswer old arrivals moment body (Ok accepted) now
    journeys_accepted accepted entries batch gone h seen_is keeps makes setting_now window_now journeys_now alerts text =
        accepts accepted h
        (subst (λ (es : List JourneyEntry). MakesJourneys (schedule_at old.setting (moment ∷ moments_of arrivals)) (admitted old.setting arrivals) body accepted.report es) (sym journeys_now)
        (subst (λ (s : Schedule). MakesJourneys s (admitted old.setting arrivals) body accepted.report (map journey_seen (put_all key_order (drop gone entries) batch))) same
        (makes (admitted old.setting arrivals)
        (subst (λ (es : List JourneyEntry). KeepsJourneys (schedule_over setting window) (filter (is_within window) (admitted old.setting arrivals)) es)
        (ap (drop gone) seen_is ∙ journeys_drop entries gone)
        (subst (λ (s : Schedule). KeepsJourneys s (filter (is_within s.window) (admitted old.setting arrivals)) (drop gone old.journeys)) (sym same) keeps)))))
        (setting_now ∙ setting_is) (window_now ∙ rolls) alerts text

    pub journeys_not_accepted : (fault : DeliveryFault) → RefusesJourneys (schedule_over setting window) body fault
        → JourneysAnswer old arrivals moment body (Err fault) now
    journeys_not_accepted NotJson refuses = refuses
    journeys_not_accepted (NotDelivery member) refuses = (refuses.0, refuses.1, ap (λ (s : Schedule). verdicts s refuses.0) (sym same) ∙ refuses.2)
    journeys_not_accepted Memory refuses = tt
