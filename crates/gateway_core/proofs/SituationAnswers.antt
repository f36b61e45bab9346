-- What a gateway answers to a delivery of situations.
use Rattle.std.proofs.Common.{◌≡◌, ◌∙◌, ◌∷◌, [], ℕ, ℤ, List, Option, Some, None, Result, Ok, Err, map, ap, subst, sym, refl}
use Rattle.std.specs.Prelude.{filter}
use Rattle.std.specs.Cmp.Lexicographic.{slice_cmp}
use Rattle.std.specs.List.{AllByRecursion}
use Rattle.std.specs.Ordering.{nat_cmp}
use Rattle.feed_index.specs.Drafts.{Drafted, after}
use Rattle.feed_index.specs.Entries.{put_all}
use Rattle.feed_index.specs.declared.entry.Entry.{Entry}
use Rattle.gw_base.specs.declared.member.Member.{Member}
use Rattle.journey_model.specs.Schedules.{Schedule}
use Rattle.journey_model.specs.Situations.{AreKnown}
use Rattle.journey_model.specs.declared.fault.Fault.{Fault}
use Rattle.journey_model.specs.declared.report.Report.{Report}
use Rattle.journey_model.specs.declared.situation.Situation.{Situation}
use Rattle.serde_json.specs.Data.{Data}
use Rattle.service_day.specs.Windows.{DayStarts}
use Rattle.siri_json.specs.Deliveries.{Reads, ReadsTree, passed_count, tree_of}
use Rattle.siri_json.specs.declared.delivery.DeliveryFault.{DeliveryFault}
use Rattle.siri_json.specs.declared.delivery.DeliveryFault.TheVariants.{NotJson, NotDelivery, Memory}
use Rattle.siri_situations.specs.Situations as judged
use Rattle.timetable.specs.Seen.{seen}
use Rattle.gateway_core.specs.Arrivals.{Arrival, admitted, admitted_situations, is_within, moments_of, schedule_at, window_at}
use Rattle.gateway_core.specs.Deliveries.{schedule_over, taken}
use Rattle.gateway_core.specs.SituationSteps.{HasTaken, IsRefused, TakesBody, alerts_after}
use Rattle.gateway_core.specs.Standing.{Kept, KeepsJourneys, KeepsSituations, SituationEntry, Stands, situation_seen}
use Rattle.gateway_core.specs.declared.keys.Edition.{Edition}
use Rattle.gateway_core.specs.Steps.{SituationsAfter}
use Rattle.gateway_core.specs.Taking.{SituationsAnswer, limited_verdicts, report_on, situations_with_room}
use Rattle.gateway_core.specs.Tallied.{Tallied, report_of}
use Rattle.gateway_core.specs.declared.items.situations.SituationTaking.{SituationTaking}
use Rattle.gateway_core.specs.declared.accepted.Accepted.{Accepted}
use Rattle.gateway_core.proofs.StandingLemmas.{stands_situations}

-- ---- what is read of a body

-- what verdicts make: what is kept, and the report
pub record Makes (schedule : Schedule) (before : List Situation) (all : List (Result (Situation × ℕ) Fault)) (report : Report) (entries : List SituationEntry) : Type 0 where
  pub known : AllByRecursion (λ (one : Situation). AreKnown schedule.table one.refs) (taken (limited_verdicts schedule.table all))
  pub entries_are : SituationsAfter schedule.table before (limited_verdicts schedule.table all) entries
  pub report_is : report ≡ report_on (situations_with_room before (limited_verdicts schedule.table all)) (passed_count all)

module _ (schedule : Schedule) (body : List ℕ) {D : Type 0} (StandsFor : D → List (Result (Situation × ℕ) Fault) → Type 0) where
  -- of a delivery whose situations were taken, when it stands for them
  pub takes_body : (before : List Situation) (given : D) (report : Report) (entries : List SituationEntry)
      → ((all : List (Result (Situation × ℕ) Fault)) → StandsFor given all → Makes schedule before all report entries)
      → Reads StandsFor (judged.verdicts schedule) (tree_of body) (Ok given) → TakesBody schedule before body entries report
  takes_body before given report entries makes reads = by (tree_of body) refl reads
    where
      by : (tree : Option Data) → tree_of body ≡ tree → Reads StandsFor (judged.verdicts schedule) tree (Ok given) → TakesBody schedule before body entries report
      by None e h = absurd h
      by (Some root) e h = of (judged.verdicts schedule root) refl h
        where
          of : (answer : Result (List (Result (Situation × ℕ) Fault)) Member) → judged.verdicts schedule root ≡ answer → ReadsTree StandsFor answer (Ok given)
              → TakesBody schedule before body entries report
          of (Err member) f has = absurd has
          of (Ok all) f has =
              let makes = makes all has in
              record { root = root; is_tree = e; all = all; verdicts_are = f; known = makes.known; entries_are = makes.entries_are; report_is = makes.report_is }

  -- of one that was refused
  pub body_refused : (fault : DeliveryFault) → Reads StandsFor (judged.verdicts schedule) (tree_of body) (Err fault) → IsRefused schedule body fault
  body_refused fault reads = by (tree_of body) refl fault reads
    where
      by : (tree : Option Data) → tree_of body ≡ tree → (fault : DeliveryFault) → Reads StandsFor (judged.verdicts schedule) tree (Err fault) → IsRefused schedule body fault
      by None e NotJson h = e
      by None e (NotDelivery member) h = absurd h
      by None e Memory h = tt
      by (Some root) e fault h = at (judged.verdicts schedule root) refl fault h
        where
          at : (answer : Result (List (Result (Situation × ℕ) Fault)) Member) → judged.verdicts schedule root ≡ answer → (fault : DeliveryFault) → ReadsTree StandsFor answer (Err fault)
              → IsRefused schedule body fault
          at (Ok all) f NotJson has = absurd cc
          at (Ok all) f (NotDelivery member) has = absurd cc
          at (Ok all) f Memory has = tt
          at (Err member) f NotJson has = absurd has
          at (Err member) f (NotDelivery told) has = (root, e, f ∙ ap (λ (m : Member). Err m) (sym has))
          at (Err member) f Memory has = tt

-- what was taken, and is reported on
pub taking_makes : (schedule : Schedule) (before : List Situation) (first now : SituationTaking) (report : Report) (all : List (Result (Situation × ℕ) Fault))
    → KeepsSituations schedule.table before (alerts_after first.draft)
    → ((faults : List (Option Fault)) (sum : ℕ) → Tallied faults sum now.tally → report ≡ report_of faults sum)
    → HasTaken schedule first now all → Makes schedule before all report (alerts_after now.draft)
taking_makes schedule before first now report all keeps reported h =
    let gathered = h.gathers before keeps in
    record { known = h.known; entries_are = gathered.entries_are; report_is = reported _ _ gathered.tally_is }

-- ---- what is to be put

-- over what is kept
pub alerts_over : (draft : Drafted (List ℕ) Edition) (kept : List (Entry (List ℕ) Edition)) → draft.kept ≡ kept → draft.items ≡ [] → alerts_after draft ≡ map situation_seen kept
alerts_over draft kept kept_is none =
    ap (λ (items : List (Entry (List ℕ) Edition)). map situation_seen (put_all (slice_cmp nat_cmp) draft.kept items)) none ∙ ap (map situation_seen) kept_is

-- and what is to be put of all that was
pub alerts_put : (draft : Drafted (List ℕ) Edition) (kept batch : List (Entry (List ℕ) Edition)) → draft.kept ≡ kept
    → put_all (slice_cmp nat_cmp) draft.kept batch ≡ after (slice_cmp nat_cmp) draft → alerts_after draft ≡ map situation_seen (put_all (slice_cmp nat_cmp) kept batch)
alerts_put draft kept batch kept_is is =
    ap (map situation_seen) (sym is) ∙ ap (λ (first : List (Entry (List ℕ) Edition)). map situation_seen (put_all (slice_cmp nat_cmp) first batch)) kept_is

-- ---- what is answered

pub answer_taken : (old now : Kept) (arrivals : List Arrival) (moment : ℤ) (body : List ℕ) (accepted : Accepted) (window : DayStarts) (entries : List SituationEntry) → Stands old arrivals
    → window ≡ window_at old.setting (moment ∷ moments_of arrivals)
    → TakesBody (schedule_over old.setting window) (admitted_situations arrivals) body entries accepted.report
    → now.setting ≡ old.setting → now.window ≡ window
    → KeepsJourneys (schedule_at old.setting (moment ∷ moments_of arrivals)) (filter (is_within (window_at old.setting (moment ∷ moments_of arrivals))) (admitted old.setting arrivals)) now.journeys
    → entries ≡ now.situations → now.text ≡ old.text
    → SituationsAnswer old arrivals moment body (Ok accepted) now
answer_taken old now arrivals moment body accepted window entries h rolls takes setting own keeps same text =
    let t : TakesBody (schedule_at old.setting (moment ∷ moments_of arrivals)) (admitted_situations arrivals) body now.situations accepted.report =
    subst (λ (es : List SituationEntry). TakesBody (schedule_at old.setting (moment ∷ moments_of arrivals)) (admitted_situations arrivals) body es accepted.report) same
    (subst (λ (w : DayStarts). TakesBody (schedule_over old.setting w) (admitted_situations arrivals) body entries accepted.report) rolls takes) in (
      taken (limited_verdicts (seen old.setting.table) t.all),
      record { root = t.root; is_tree = t.is_tree; all = t.all; judged = t.verdicts_are; given_are = refl; report_is = t.report_is },
      record {
        setting_is = setting;
        stands =
            stands_situations old now arrivals moment (limited_verdicts (seen old.setting.table) t.all) h (record { servable = tt; known = t.known }) setting (own ∙ rolls) keeps t.entries_are text;
      },
    )

pub answer_refused : (old now : Kept) (arrivals : List Arrival) (moment : ℤ) (body : List ℕ) (fault : DeliveryFault) (window : DayStarts)
    → window ≡ window_at old.setting (moment ∷ moments_of arrivals)
    → IsRefused (schedule_over old.setting window) body fault
    → SituationsAnswer old arrivals moment body (Err fault) now
answer_refused old now arrivals moment body fault window rolls refused =
    by fault (subst (λ (w : DayStarts). IsRefused (schedule_over old.setting w) body fault) rolls refused)
  where
    by : (one : DeliveryFault) → IsRefused (schedule_at old.setting (moment ∷ moments_of arrivals)) body one → SituationsAnswer old arrivals moment body (Err one) now
    by NotJson h = h
    by (NotDelivery member) h = h
    by Memory h = tt
