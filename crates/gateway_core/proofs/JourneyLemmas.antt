-- The items of a delivery of journeys, one by one.
use Rattle.std.proofs.Common.{◌≡◌, ◌∙◌, ◌++◌, ◌∷◌, ◌+◌, ◌≤◌, ◌<◌, [], ℕ, Bool, true, false, cond, not, List, map, length, Some, None, Result, Ok, Err, ap, sym, refl, subst, arith}
use Rattle.std.proofs.lemmas.List.{append-nil, map-append}
use Rattle.std.proofs.lemmas.Bool.{lt-ltb}
use Rattle.std.proofs.lemmas.Bool.Decides.{nat_tests}
use Rattle.std.specs.Prelude.{filter, nat_lt}
use Rattle.std.specs.List.{AllByRecursion}
use Rattle.std.specs.Result.{result_err}
use Rattle.journey_model.specs.Records.{Recorded, recorded}
use Rattle.journey_model.specs.Schedules.{Schedule}
use Rattle.journey_model.specs.declared.fault.Fault.{Fault}
use Rattle.journey_model.specs.declared.fault.Fault.TheVariants.{Full}
use Rattle.journey_model.specs.declared.readings.JourneyRecord.{JourneyRecord}
use Rattle.service_day.specs.declared.moments.Instant.{Instant}
use Rattle.siri_json.specs.Deliveries.{passed_in, without_count}
use Rattle.feed_index.specs.Entries.{put, value_at}
use Rattle.feed_index.specs.declared.entry.Entry.{Entry}
use Rattle.latest_store.specs.Entities.{entity}
use Rattle.latest_store.specs.Latest.{is_later}
use Rattle.gateway_core.specs.Arrivals.{is_same_journey, is_within, most_journeys}
use Rattle.gateway_core.specs.Deliveries.{taken}
use Rattle.feed_index.specs.Drafts.{Drafted, after}
use Rattle.gateway_core.specs.declared.keys.JourneyKey.{JourneyKey}
use Rattle.gateway_core.specs.JourneySteps.{GathersJourneys, HasTaken, IsPut, IsVerdictPut, journey_of, journey_verdict, key_order, seen_after, verdict_fault, verdict_step}
use Rattle.gateway_core.specs.Standing.{JourneyEntry, KeepsJourneys, journey_entry, journey_seen}
use Rattle.gateway_core.specs.Steps.{JourneysAfter, journey_counts, journey_fits, journey_kept, with_journey}
use Rattle.gateway_core.specs.Taking.{journeys_with_room}
use Rattle.gateway_core.specs.Tallied.{Tallied}
use Rattle.gateway_core.specs.Winners.{AreServable}
use Rattle.gateway_core.specs.declared.items.journeys.JourneyTaking.{JourneyTaking}
use Rattle.gateway_core.specs.declared.items.tally.Tally.{Tally}
use Rattle.gateway_core.proofs.KeepsLemmas.{roomy-append}
use Rattle.gateway_core.proofs.RollLemmas.{all_within}
use Rattle.gateway_core.proofs.SeenLemmas.{journey_counts_found, journey_counts_new, journey_fits_found, journey_fits_new, journey_put}
use Rattle.gateway_core.proofs.StepLemmas.{journey_aside, journey_full, journey_lost, journey_verdict_full, journey_verdict_taken, journey_won}
use Rattle.gateway_core.proofs.TallyLemmas.{CountsOne, one_counted}

-- ---- a record among what will be kept

module _ (entries : List (Entry JourneyKey Instant)) (rec : JourneyRecord) where
  verdict_by : (fits : Bool) → journey_fits (map journey_seen entries) (recorded rec) ≡ fits
      → journey_verdict (map journey_seen entries) (recorded rec)
      ≡ cond fits (Some (journey_counts (journey_kept (map journey_seen entries) (recorded rec)) (recorded rec))) None
  verdict_by fits e = ap (λ (b : Bool). cond b (Some (journey_counts (journey_kept (map journey_seen entries) (recorded rec)) (recorded rec))) None) e

  pub verdict_found : (old : Instant) (counts : Bool) → Some old ≡ value_at key_order entries (journey_of rec)
      → counts ≡ not (is_later (old.secs, old.nanos) (rec.at.secs, rec.at.nanos)) → Some counts ≡ journey_verdict (map journey_seen entries) (recorded rec)
  verdict_found old counts found is =
      ap (λ (b : Bool). Some b) (is ∙ sym (journey_counts_found entries rec old found)) ∙ sym (verdict_by true (journey_fits_found entries rec old found))

  pub verdict_new : (long : ℕ) → None ≡ value_at key_order entries (journey_of rec) → long ≡ length entries → long < most_journeys
      → Some true ≡ journey_verdict (map journey_seen entries) (recorded rec)
  verdict_new long new is few =
      ap (λ (b : Bool). Some b) (sym (journey_counts_new entries rec new))
      ∙ sym (verdict_by true (journey_fits_new entries rec new ∙ ap (λ (n : ℕ). nat_lt n most_journeys) (sym is) ∙ lt-ltb long most_journeys few))

  pub verdict_full : (long : ℕ) → None ≡ value_at key_order entries (journey_of rec) → long ≡ length entries → most_journeys ≤ long
      → None ≡ journey_verdict (map journey_seen entries) (recorded rec)
  verdict_full long new is many =
      sym (verdict_by false (journey_fits_new entries rec new ∙ ap (λ (n : ℕ). nat_lt n most_journeys) (sym is) ∙ not_less long many))
    where
      not_less : (n : ℕ) → most_journeys ≤ n → nat_lt n most_journeys ≡ false
      not_less n h = grind (arith, nat_tests)

-- a record that is put at its journey
pub put_seen : (schedule : Schedule) (old now : Drafted JourneyKey Instant) (rec : JourneyRecord) (key : JourneyKey) (value : Instant) (bytes : List ℕ)
    → after key_order now ≡ put key_order (after key_order old) (record { key = key; value = value; bytes = bytes })
    → key ≡ journey_of rec → value ≡ rec.at → bytes ≡ entity schedule (recorded rec)
    → seen_after now ≡ with_journey (seen_after old) (journey_entry schedule (recorded rec))
put_seen schedule old now rec key value bytes is key_is value_is bytes_are =
    ap (map journey_seen) is
    ∙ journey_put (after key_order old) (record { key = key; value = value; bytes = bytes })
    ∙ ap (λ (k : JourneyKey). with_journey (seen_after old) (journey_seen (record { key = k; value = value; bytes = bytes }))) key_is
    ∙ ap (λ (v : Instant). with_journey (seen_after old) (journey_seen (record { key = journey_of rec; value = v; bytes = bytes }))) value_is
    ∙ ap (λ (b : List ℕ). with_journey (seen_after old) (journey_seen (record { key = journey_of rec; value = rec.at; bytes = b }))) bytes_are

-- ---- one item more

module _ (schedule : Schedule) (before : List Recorded) where
  abbrev so_far : List (Result (Recorded × ℕ) Fault) → List (Result Recorded Fault)
  so_far all = map without_count all

  abbrev with_room_of : List (Result Recorded Fault) → List (Result Recorded Fault)
  with_room_of verdicts = journeys_with_room schedule.window before verdicts

  -- what a verdict more makes
  record Steps (verdicts : List (Result Recorded Fault)) (one : Result Recorded Fault) (entries : List JourneyEntry) : Type 0 where
    last : Result Recorded Fault
    fault_is : result_err last ≡ verdict_fault entries one
    with_one : with_room_of (verdicts ++ one ∷ []) ≡ with_room_of verdicts ++ last ∷ []
    after : JourneysAfter schedule before (verdicts ++ one ∷ []) (verdict_step schedule entries one)

  all_in : (records : List Recorded) → AreServable schedule records → AllByRecursion (λ a. is_within schedule.window a ≡ true) records
  all_in records h = all_within schedule records h

  steps : (verdicts : List (Result Recorded Fault)) (one : Result Recorded Fault) (entries : List JourneyEntry) → AreServable schedule (taken verdicts)
      → AreServable schedule (taken (one ∷ [])) → IsVerdictPut schedule entries one → JourneysAfter schedule before verdicts entries → Steps verdicts one entries
  steps verdicts (Err fault) entries h its put keeps = record {
    last = Err fault;
    fault_is = refl;
    with_one = roomy-append is_same_journey (is_within schedule.window) most_journeys before verdicts (Err fault ∷ []);
    after = journey_aside schedule before verdicts entries keeps fault;
  }
  steps verdicts (Ok one) entries h its put keeps =
      by (journey_fits entries one) (journey_counts (journey_kept entries one) one) refl refl put
    where
      one_in : is_within schedule.window one ≡ true
      one_in = (all_in (one ∷ []) its).0

      by : (fits counts : Bool) → journey_fits entries one ≡ fits → journey_counts (journey_kept entries one) one ≡ counts
          → IsPut schedule one (cond fits (Some counts) None) → Steps verdicts (Ok one) entries
      by true true e f served = record {
        last = Ok one;
        fault_is = rw e refl;
        with_one = journey_verdict_taken schedule before verdicts entries keeps one one_in (all_in (taken verdicts) h) e;
        after = rw (e, f) (journey_won schedule before verdicts entries keeps one one_in (all_in (taken verdicts) h) served e f);
      }
      by true false e f lost = record {
        last = Ok one;
        fault_is = rw e refl;
        with_one = journey_verdict_taken schedule before verdicts entries keeps one one_in (all_in (taken verdicts) h) e;
        after = rw (e, f) (journey_lost schedule before verdicts entries keeps one one_in (all_in (taken verdicts) h) e f);
      }
      by false counts e f full = record {
        last = Err Full;
        fault_is = rw e refl;
        with_one = journey_verdict_full schedule before verdicts entries keeps one one_in (all_in (taken verdicts) h) e;
        after = rw e (journey_full schedule before verdicts entries keeps one one_in (all_in (taken verdicts) h) e);
      }

  -- nothing yet
  gathers_none : (entries : List JourneyEntry) (tally : Tally) → Tallied [] 0 tally → KeepsJourneys schedule (filter (is_within schedule.window) before) entries
      → GathersJourneys schedule before [] entries tally
  gathers_none entries tally none keeps = record {
    entries_are = subst (λ (all : List Recorded). KeepsJourneys schedule all entries) (sym (append-nil (filter (is_within schedule.window) before))) keeps;
    tally_is = none;
  }

  -- one item more
  gathers_more : (all : List (Result (Recorded × ℕ) Fault)) (one : Result (Recorded × ℕ) Fault) (entries now : List JourneyEntry) (tally later : Tally)
      → AreServable schedule (taken (so_far all)) → AreServable schedule (taken (without_count one ∷ [])) → IsVerdictPut schedule entries (without_count one)
      → now ≡ verdict_step schedule entries (without_count one) → CountsOne (verdict_fault entries (without_count one)) (passed_in one) tally later
      → GathersJourneys schedule before all entries tally → GathersJourneys schedule before (all ++ one ∷ []) now later
  gathers_more all one entries now tally later h its put now_is counted gathers =
      let step = steps (so_far all) (without_count one) entries h its put gathers.entries_are in
      let more : so_far (all ++ one ∷ []) ≡ so_far all ++ without_count one ∷ [] = map-append without_count all (one ∷ []) in
      record {
        entries_are = rw (now_is, more) step.after;
        tally_is = one_counted (with_room_of (so_far all)) (with_room_of (so_far (all ++ one ∷ []))) step.last all one tally later
            (ap with_room_of more ∙ step.with_one) (rw step.fault_is counted) gathers.tally_is;
      }

-- ---- what takes them

-- the records that are taken, with one verdict more
servable_more : (schedule : Schedule) (all : List (Result (Recorded × ℕ) Fault)) (one : Result (Recorded × ℕ) Fault) → AreServable schedule (taken (map without_count all))
    → AreServable schedule (taken (without_count one ∷ [])) → AreServable schedule (taken (map without_count (all ++ one ∷ [])))
servable_more schedule [] one h its = its
servable_more schedule (Ok first ∷ others) one h its = (h.0, servable_more schedule others one h.1 its)
servable_more schedule (Err fault ∷ others) one h its = servable_more schedule others one h its

-- it took nothing yet
pub takes_none : (schedule : Schedule) (taking : JourneyTaking) → Tallied [] 0 taking.tally → HasTaken schedule taking taking []
takes_none schedule taking none = record {
  kept_is = refl;
  servable = tt;
  gathers = λ before keeps. gathers_none schedule before (seen_after taking.draft) taking.tally none keeps;
}

-- it took one more
pub takes_more : (schedule : Schedule) (first old now : JourneyTaking) (all : List (Result (Recorded × ℕ) Fault)) (one : Result (Recorded × ℕ) Fault)
    → now.draft.kept ≡ old.draft.kept → AreServable schedule (taken (without_count one ∷ [])) → IsVerdictPut schedule (seen_after old.draft) (without_count one)
    → seen_after now.draft ≡ verdict_step schedule (seen_after old.draft) (without_count one)
    → CountsOne (verdict_fault (seen_after old.draft) (without_count one)) (passed_in one) old.tally now.tally
    → HasTaken schedule first old all → HasTaken schedule first now (all ++ one ∷ [])
takes_more schedule first old now all one same its put now_is counted h = record {
  kept_is = same ∙ h.kept_is;
  servable = servable_more schedule all one h.servable its;
  gathers = λ before keeps.
      gathers_more schedule before all one (seen_after old.draft) (seen_after now.draft) old.tally now.tally h.servable its put now_is counted (h.gathers before keeps);
}
