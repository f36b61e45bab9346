-- The items of a delivery of situations, one after the other: what is kept, and those that are set aside.
use Rattle.std.proofs.Common.{◌≡◌, ◌∙◌, ◌+◌, ◌-◌, ◌++◌, ◌∷◌, ◌<◌, ◌≤◌, [], ℕ, Bool, true, false, not, List, Some, None, Result, Ok, Err, length, map, ap, sym, subst, refl, arith}
use Rattle.std.proofs.lemmas.List.{append-nil, map-append}
use Rattle.std.proofs.lemmas.Bool.Decides.{nat_tests}
use Rattle.std.specs.Prelude.{IfOk, filter, if◌then◌else◌, nat_le, nat_lt}
use Rattle.std.specs.Cmp.Lexicographic.{slice_cmp}
use Rattle.std.specs.List.{AllByRecursion}
use Rattle.std.specs.Ordering.{nat_cmp}
use Rattle.std.specs.Result.{result_err}
use Rattle.alert_map.specs.Alerts.{alert_message}
use Rattle.feed_writing.specs.Written.{written}
use Rattle.feed_index.specs.Entries.{value_at}
use Rattle.feed_index.specs.declared.entry.Entry.{Entry}
use Rattle.feed_reading.specs.Tables.{MeansFeed, with_entity}
use Rattle.gw_base.specs.declared.messages.Feed.{Feed}
use Rattle.journey_model.specs.Schedules.{Schedule}
use Rattle.journey_model.specs.Situations.{AreKnown}
use Rattle.journey_model.specs.declared.fault.Fault.{Fault}
use Rattle.journey_model.specs.declared.fault.Fault.TheVariants.{EntityTooLong, Full}
use Rattle.journey_model.specs.declared.situation.Situation.{Situation}
use Rattle.siri_json.specs.Deliveries.{passed_in, without_count}
use Rattle.timetable.specs.Table.{Table}
use Rattle.gateway_core.specs.Alerts.{alert_len, alert_limit}
use Rattle.gateway_core.specs.Arrivals.{always, is_same_number, most_numbers}
use Rattle.gateway_core.specs.Deliveries.{taken}
use Rattle.gateway_core.specs.SituationSteps.{GathersSituations, HasTaken, IsVerdictServed, after_situation, alerts_after, situation_verdict, verdict_fault, verdict_step, with_alert}
use Rattle.gateway_core.specs.Standing.{KeepsSituations, SituationEntry, situation_seen}
use Rattle.gateway_core.specs.Steps.{SituationsAfter, situation_counts, situation_fits, situation_kept, with_situation}
use Rattle.gateway_core.specs.Taking.{limited_verdict, limited_verdicts, situations_with_room}
use Rattle.gateway_core.specs.Tallied.{Tallied}
use Rattle.gateway_core.specs.declared.items.situations.SituationTaking.{SituationTaking}
use Rattle.gateway_core.specs.declared.items.tally.Tally.{Tally}
use Rattle.gateway_core.specs.declared.keys.Edition.{Edition}
use Rattle.gateway_core.proofs.KeepsLemmas.{roomy_aside}
use Rattle.gateway_core.proofs.TallyLemmas.{CountsOne, one_counted}
use Rattle.gateway_core.proofs.RollLemmas.{filter_all}
use Rattle.gateway_core.proofs.SeenLemmas.{situation_counts_found, situation_counts_new, situation_fits_found, situation_fits_new}
use Rattle.gateway_core.proofs.StepLemmas.{situation_aside, situation_full, situation_lost, situation_verdict_full, situation_verdict_taken, situation_won}
use Rattle.gateway_core.specs.JourneySteps.{room_fault}

-- ---- what an index keeps, as it is seen

pub alert_put : (table : Table) (entries : List SituationEntry) (one : Situation) (number alert : List ℕ) → number ≡ one.number → alert ≡ written (alert_message table one)
    → with_situation entries (record { key = number; value = (one.version, one.served); bytes = alert }) ≡ with_alert table entries one
alert_put table entries one number alert e is =
    ap (λ (entry : SituationEntry). with_situation entries entry) (λ i. record { key = e i; value = (one.version, one.served); bytes = is i })

-- ---- one verdict more

module _ (table : Table) (before : List Situation) (all : List (Result (Situation × ℕ) Fault)) (entries : List SituationEntry) (tally : Tally) (h : GathersSituations table before all entries tally) where
  abbrev so_far : List (Result Situation Fault)
  so_far = limited_verdicts table all

  with_last : (one : Result (Situation × ℕ) Fault) (verdict last : Result Situation Fault) (left : List SituationEntry) (later : Tally) → limited_verdict table (without_count one) ≡ verdict
      → CountsOne (result_err last) (passed_in one) tally later → SituationsAfter table before (so_far ++ verdict ∷ []) left
      → situations_with_room before (so_far ++ verdict ∷ []) ≡ situations_with_room before so_far ++ last ∷ []
      → GathersSituations table before (all ++ one ∷ []) left later
  with_last one verdict last left later is counted keeps has = record {
    entries_are = rw more keeps;
    tally_is =
        one_counted (situations_with_room before so_far) (situations_with_room before (limited_verdicts table (all ++ one ∷ []))) last all one tally later
        (ap (situations_with_room before) more ∙ has) counted h.tally_is;
  }
    where
      more : limited_verdicts table (all ++ one ∷ []) ≡ so_far ++ verdict ∷ []
      more =
          ap (map (limited_verdict table)) (map-append without_count all (one ∷ []))
          ∙ map-append (limited_verdict table) (map without_count all) (without_count one ∷ [])
          ∙ ap (λ (last : Result Situation Fault). so_far ++ last ∷ []) is

  gathers_more : (one : Result (Situation × ℕ) Fault) (verdict : Result Situation Fault) (left : List SituationEntry) (later : Tally) → limited_verdict table (without_count one) ≡ verdict
      → IsVerdictServed table verdict → left ≡ verdict_step table entries verdict → CountsOne (verdict_fault entries verdict) (passed_in one) tally later
      → GathersSituations table before (all ++ one ∷ []) left later
  gathers_more one (Err fault) left later is served left_is counted =
      with_last one (Err fault) (Err fault) left later is counted
      (rw left_is (situation_aside table before so_far entries h.entries_are fault)) (roomy_aside is_same_number always most_numbers before so_far fault)
  gathers_more one (Ok situation) left later is served left_is counted =
      by (situation_fits entries situation) refl (situation_counts (situation_kept entries situation) situation) refl left_is counted
    where
      by : (fits : Bool) → situation_fits entries situation ≡ fits → (counts : Bool) → situation_counts (situation_kept entries situation) situation ≡ counts
          → left ≡ after_situation table entries situation (if fits then Some counts else None)
          → CountsOne (room_fault (if fits then Some counts else None)) (passed_in one) tally later
          → GathersSituations table before (all ++ one ∷ []) left later
      by false e counts k same told =
          with_last one (Ok situation) (Err Full) left later is told
          (rw same (situation_full table before so_far entries h.entries_are situation e)) (situation_verdict_full table before so_far entries h.entries_are situation e)
      by true e true k same told =
          with_last one (Ok situation) (Ok situation) left later is told
          (rw same (situation_won table before so_far entries h.entries_are situation served e k)) (situation_verdict_taken table before so_far entries h.entries_are situation e)
      by true e false k same told =
          with_last one (Ok situation) (Ok situation) left later is told
          (rw same (situation_lost table before so_far entries h.entries_are situation e k)) (situation_verdict_taken table before so_far entries h.entries_are situation e)

-- before the first
gathers_none : (table : Table) (before : List Situation) (entries : List SituationEntry) (tally : Tally) → Tallied [] 0 tally → KeepsSituations table before entries
    → GathersSituations table before [] entries tally
gathers_none table before entries tally none h = record {
  entries_are = subst (λ (all : List Situation). KeepsSituations table all entries) (sym (append-nil (filter always before) ∙ filter_all always before (each before))) h;
  tally_is = none;
}
  where
    each : (all : List Situation) → AllByRecursion (λ (one : Situation). always one ≡ true) all
    each [] = tt
    each (one ∷ others) = (refl, each others)

-- ---- what takes them

-- what is taken refers to what is there, with one verdict more
abbrev AreThere : Table → List (Result Situation Fault) → Type 0
AreThere table verdicts = AllByRecursion (λ (one : Situation). AreKnown table one.refs) (taken verdicts)

known_limited : (table : Table) (one : Result (Situation × ℕ) Fault) → IfOk one (λ found. AreKnown table found.0.refs) → AreThere table (limited_verdict table (without_count one) ∷ [])
known_limited table (Err fault) its = tt
known_limited table (Ok found) its = by (nat_le (alert_len table found.0) alert_limit)
  where
    by : (fits : Bool) → AreThere table ((if fits then Ok found.0 else Err (EntityTooLong (alert_len table found.0))) ∷ [])
    by true = (its, tt)
    by false = tt

joined : (table : Table) (verdicts : List (Result Situation Fault)) (last : Result Situation Fault) → AreThere table verdicts → AreThere table (last ∷ []) → AreThere table (verdicts ++ last ∷ [])
joined table [] last h its = its
joined table (Ok one ∷ others) last h its = (h.0, joined table others last h.1 its)
joined table (Err fault ∷ others) last h its = joined table others last h its

known_more : (table : Table) (all : List (Result (Situation × ℕ) Fault)) (one : Result (Situation × ℕ) Fault) → AreThere table (limited_verdicts table all)
    → IfOk one (λ found. AreKnown table found.0.refs) → AreThere table (limited_verdicts table (all ++ one ∷ []))
known_more table all one h its =
    subst (AreThere table)
    (sym (ap (map (limited_verdict table)) (map-append without_count all (one ∷ [])) ∙ map-append (limited_verdict table) (map without_count all) (without_count one ∷ [])))
    (joined table (limited_verdicts table all) (limited_verdict table (without_count one)) h (known_limited table one its))

-- it took nothing yet
pub takes_none : (schedule : Schedule) (taking : SituationTaking) → Tallied [] 0 taking.tally → HasTaken schedule taking taking []
takes_none schedule taking none = record {
  kept_is = refl;
  known = tt;
  gathers = λ before keeps. gathers_none schedule.table before (alerts_after taking.draft) taking.tally none keeps;
}

-- it took one more
pub takes_more : (schedule : Schedule) (first old now : SituationTaking) (all : List (Result (Situation × ℕ) Fault)) (one : Result (Situation × ℕ) Fault)
    → now.draft.kept ≡ old.draft.kept → IfOk one (λ found. AreKnown schedule.table found.0.refs) → IsVerdictServed schedule.table (limited_verdict schedule.table (without_count one))
    → alerts_after now.draft ≡ verdict_step schedule.table (alerts_after old.draft) (limited_verdict schedule.table (without_count one))
    → CountsOne (verdict_fault (alerts_after old.draft) (limited_verdict schedule.table (without_count one))) (passed_in one) old.tally now.tally
    → HasTaken schedule first old all → HasTaken schedule first now (all ++ one ∷ [])
takes_more schedule first old now all one same its served now_is counted h = record {
  kept_is = same ∙ h.kept_is;
  known = known_more schedule.table all one h.known its;
  gathers = λ before keeps.
      gathers_more schedule.table before all (alerts_after old.draft) old.tally (h.gathers before keeps) one (limited_verdict schedule.table (without_count one)) (alerts_after now.draft) now.tally refl
      served now_is counted;
}

-- ---- the verdict on a situation

limit_tested : (len : ℕ) → len ≤ alert_limit → nat_le len alert_limit ≡ true
limit_tested len h = grind (arith, nat_tests)

limit_passed : (len : ℕ) → alert_limit < len → nat_le len alert_limit ≡ false
limit_passed len h = grind (arith, nat_tests)

-- by the length of its alert
pub within_limit : (table : Table) (one : Situation) (len : ℕ) → len ≡ alert_len table one → len ≤ alert_limit → limited_verdict table (Ok one) ≡ Ok one
within_limit table one len is few =
    ap (λ (fits : Bool). if fits then Ok one else Err (EntityTooLong (alert_len table one))) (limit_tested (alert_len table one) (omega (arith, is, few)))

pub over_limit : (table : Table) (one : Situation) (len : ℕ) → len ≡ alert_len table one → alert_limit < len → limited_verdict table (Ok one) ≡ Err (EntityTooLong len)
over_limit table one len is many =
    ap (λ (fits : Bool). if fits then Ok one else Err (EntityTooLong (alert_len table one))) (limit_passed (alert_len table one) (omega (arith, is, many)))
    ∙ ap (λ (n : ℕ). Err (EntityTooLong n)) (sym is)

-- one that isn't too long means itself
pub served_within : (table : Table) (one : Situation) (len : ℕ) (alert : List ℕ) → len ≡ alert_len table one → len ≤ alert_limit → alert ≡ written (alert_message table one)
    → ((before : List ℕ) (given : Feed) → MeansFeed before given → MeansFeed (before ++ alert) (with_entity given (alert_message table one)))
    → IsVerdictServed table (limited_verdict table (Ok one))
served_within table one len alert is few same means =
    subst (IsVerdictServed table) (sym (within_limit table one len is few))
    (record {
      means = subst
          (λ (bytes : List ℕ). (before : List ℕ) (given : Feed) → MeansFeed before given → MeansFeed (before ++ bytes) (with_entity given (alert_message table one))) same means;
      short = omega (arith, is, few);
    })

pub served_over : (table : Table) (one : Situation) (len : ℕ) → len ≡ alert_len table one → alert_limit < len → IsVerdictServed table (limited_verdict table (Ok one))
served_over table one len is many = subst (IsVerdictServed table) (sym (over_limit table one len is many)) tt

-- by what is found under its number
module _ (entries : List (Entry (List ℕ) Edition)) (one : Situation) where
  by_test : (fits counts : Bool) → situation_fits (map situation_seen entries) one ≡ fits → situation_counts (situation_kept (map situation_seen entries) one) one ≡ counts
      → (if fits then Some counts else None) ≡ situation_verdict (map situation_seen entries) one
  by_test fits counts e f =
      ap (λ (b : Bool). if b then Some counts else None) (sym e)
      ∙ ap (λ (b : Bool). if situation_fits (map situation_seen entries) one then Some b else None) (sym f)

  no_less : (a b : ℕ) → not (nat_lt b a) ≡ nat_le a b
  no_less a b = grind (arith, nat_tests)

  room_tested : (count : ℕ) → count < most_numbers → nat_lt count most_numbers ≡ true
  room_tested count h = grind (arith, nat_tests)

  room_passed : (count : ℕ) → most_numbers ≤ count → nat_lt count most_numbers ≡ false
  room_passed count h = grind (arith, nat_tests)

  pub verdict_over : (old : Edition) → Some old ≡ value_at (slice_cmp nat_cmp) entries one.number
      → Some (nat_le old.version one.version) ≡ situation_verdict (map situation_seen entries) one
  verdict_over old found =
      by_test true (nat_le old.version one.version) (situation_fits_found entries one old found)
      (situation_counts_found entries one old found ∙ no_less old.version one.version)

  module _ (count : ℕ) (new : None ≡ value_at (slice_cmp nat_cmp) entries one.number) (is : count ≡ length entries) where
    pub verdict_free : count < most_numbers → Some true ≡ situation_verdict (map situation_seen entries) one
    verdict_free few =
        by_test true true (situation_fits_new entries one new ∙ ap (λ (n : ℕ). nat_lt n most_numbers) (sym is) ∙ room_tested count few) (situation_counts_new entries one new)

    pub verdict_full : most_numbers ≤ count → None ≡ situation_verdict (map situation_seen entries) one
    verdict_full many =
        by_test false true (situation_fits_new entries one new ∙ ap (λ (n : ℕ). nat_lt n most_numbers) (sym is) ∙ room_passed count many) (situation_counts_new entries one new)
