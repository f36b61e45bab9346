-- A delivery is written one entity after the other.
use Rattle.std.proofs.Common.{◌≡◌, ◌∙◌, ℕ, ℤ, ◌+◌, ◌≤◌, ◌<◌, min, Bool, true, false, nat_lt, int_le, List, [], ◌∷◌, ◌++◌, length, map, drop, get_or, Option, Some, None, Ok, Err, refl, ap, sym, subst, append_assoc, arith, if◌then◌else◌}
use Rattle.std.proofs.lemmas.Bool.{and_parts}
use Rattle.std.specs.List.{AllByRecursion, filter_map, sum_by}
use Rattle.std.specs.Option.{option_or}
use Rattle.std.specs.Prelude.{All, pos}
use Rattle.std.proofs.lemmas.List.{append-nil, at_drop_all, drop_more}
use Rattle.std.proofs.lemmas.List.Elements.{All-from_recursion}
use Rattle.std.proofs.lemmas.List.Sums.{sum_by-drop_more}
use Rattle.std.proofs.lemmas.Bool.Decides.{nat_tests}
use Rattle.std.proofs.lemmas.Int.{ints}
use Rattle.serde_json.specs.Written.{comma_if}
use Rattle.gw_base.specs.Count.{last_count}
use Rattle.gw_base.specs.Limits.{last_moment}
use Rattle.gw_base.specs.Moments.{is_moment}
use Rattle.gw_base.specs.declared.member.Member.{Member}
use Rattle.gw_base.specs.declared.messages.Alert.{Alert}
use Rattle.gw_base.specs.declared.messages.Entity.{Entity}
use Rattle.gw_base.specs.declared.messages.Period.{Period}
use Rattle.gw_base.proofs.Elements.{or_neither}
use Rattle.gw_base.specs.Chains.{unless_fault}
use Rattle.timetable.specs.Table.{Table}
use Rattle.journey_model.specs.declared.fault.Fault.{Fault}
use Rattle.journey_model.specs.declared.fault.Fault.TheVariants.{BadField}
use Rattle.journey_model.specs.Reports.{aside_from}
use Rattle.journey_model.specs.declared.report.Report.{Report}
use Rattle.journey_model.specs.FeedReadings.{aside_all, fault_said, given}
use Rattle.reverse_alerts.specs.Kept.{all_named}
use Rattle.reverse_alerts.specs.Progress.{Verdict, added_text, fault_by, no_report, none_named, with_passed, with_verdict}
use Rattle.reverse_alerts.specs.Senses.{sense}
use Rattle.reverse_alerts.specs.SituationTexts.{IsBound, IsTold, head_text, situation_text, situations_text, tail_text}
use Rattle.reverse_alerts.specs.SituationTree.{delivery_text}
use Rattle.reverse_alerts.specs.Taken.{bound_fault, entity_verdict, number_fault, passed_count, passed_in, period_fault, periods_fault, report_on, situation_of, situations, verdict, verdicts}
use Rattle.reverse_alerts.proofs.NamingLemmas.{none_is}
use Rattle.reverse_alerts.proofs.WrittenLemmas.{delivery}

-- what a run keeps: the text so far and that of what is left are the whole, and so are the report and what is left
pub record LeftOf (table : Table) (moment : ℤ) (left : List Verdict) (passes : ℕ) (whole : List ℕ) (taken passed : ℕ)
    (aside : List (ℕ × Fault)) (number : ℕ) (text : List ℕ) (report : Report) : Type 0 where
  pub text_is : text ++ situations_text (nat_lt 0 report.taken) table moment (filter_map given left) ≡ whole
  pub taken_is : report.taken + length (filter_map given left) ≡ taken
  pub few : report.taken ≤ number
  pub passed_is : min (report.passed + passes) last_count ≡ passed
  pub within : report.passed ≤ last_count
  pub aside_is : report.aside ++ aside_from number (map fault_said left) ≡ aside

later_is : (taken : ℕ) → nat_lt 0 (taken + 1) ≡ true
later_is taken = grind (arith, nat_tests)

-- one entity more
pub one_more : (table : Table) (moment : ℤ) (verdict : Verdict) (left : List Verdict) (more passes : ℕ) (whole : List ℕ) (taken passed : ℕ)
    (aside : List (ℕ × Fault)) (number : ℕ) (text text' : List ℕ) (report report' : Report)
    → LeftOf table moment (verdict ∷ left) (more + passes) whole taken passed aside number text report
    → text' ≡ text ++ added_text (nat_lt 0 report.taken) table moment verdict
    → report' ≡ with_verdict number verdict (with_passed more report)
    → LeftOf table moment left passes whole taken passed aside (number + 1) text' report'
one_more table moment None left more passes whole taken passed aside number text text' report report' h text-is report-is =
    rw (text-is, report-is) (record {
      text_is = rw (append-nil text) h.text_is;
      taken_is = h.taken_is;
      few = omega (arith, h.few);
      passed_is = omega (arith, h.passed_is);
      within = omega arith;
      aside_is = h.aside_is;
    })
one_more table moment (Some (Err fault)) left more passes whole taken passed aside number text text' report report' h text-is report-is =
    rw (text-is, report-is) (record {
      text_is = rw (append-nil text) h.text_is;
      taken_is = h.taken_is;
      few = omega (arith, h.few);
      passed_is = omega (arith, h.passed_is);
      within = omega arith;
      aside_is = append_assoc report.aside ((number, fault) ∷ []) (aside_from (number + 1) (map fault_said left)) ∙ h.aside_is;
    })
one_more table moment (Some (Ok one)) left more passes whole taken passed aside number text text' report report' h text-is report-is =
    rw (text-is, report-is) (record {
      text_is = rw (later_is report.taken) (grouped text (comma_if (nat_lt 0 report.taken)) (situation_text table moment one)
          (situations_text true table moment (filter_map given left)) ∙ h.text_is);
      taken_is = omega (arith, h.taken_is);
      few = omega (arith, h.few);
      passed_is = omega (arith, h.passed_is);
      within = omega arith;
      aside_is = h.aside_is;
    })
  where
    grouped : (a b c d : List ℕ) → (a ++ (b ++ c)) ++ d ≡ a ++ (b ++ c ++ d)
    grouped a b c d = simp append_assoc

-- nothing so far
pub none_yet : (table : Table) (moment : ℤ) (left : List Verdict) (passes : ℕ) (text : List ℕ)
    → LeftOf table moment left passes (text ++ situations_text false table moment (filter_map given left)) (length (filter_map given left)) (min passes last_count)
    (aside_all left) 0 text no_report
none_yet table moment left passes text = record {
  text_is = refl;
  taken_is = omega arith;
  few = omega arith;
  passed_is = omega arith;
  within = omega arith;
  aside_is = refl;
}

-- all
pub all_done : (table : Table) (moment : ℤ) (whole : List ℕ) (taken passed : ℕ) (aside : List (ℕ × Fault)) (number : ℕ) (text : List ℕ) (report : Report)
    → LeftOf table moment [] 0 whole taken passed aside number text report
    → (text ++ 93 ∷ [] ≡ whole) × (report ≡ record { taken = taken; passed = passed; aside = aside })
all_done table moment whole taken passed aside number text report h =
    let a : report.taken ≡ taken = omega (arith, h.taken_is) in
    let b : report.passed ≡ passed = omega (arith, h.passed_is, h.within) in
    let c : report.aside ≡ aside = sym (append-nil report.aside) ∙ h.aside_is in
    (h.text_is, λ i. record { taken = a i; passed = b i; aside = c i })

-- ---- over the entities of a feed

-- what a run keeps in front of the entity of that number
abbrev pub RunTo : Table → ℤ → List Entity → ℕ → List ℕ → Report → Type 0
RunTo table moment all number text report =
    LeftOf table moment (verdicts table (drop number all)) (sum_by (passed_in table) (drop number all))
    (head_text moment ++ situations_text false table moment (situations table all)) (length (situations table all)) (passed_count table all)
    (aside_all (verdicts table all)) number text report

pub run_begins : (table : Table) (moment : ℤ) (all : List Entity) → RunTo table moment all 0 (head_text moment) no_report
run_begins table moment all = none_yet table moment (verdicts table all) (sum_by (passed_in table) all) (head_text moment)

pub run_goes_on : (table : Table) (moment : ℤ) (all : List Entity) (number : ℕ) (entity : Entity) (text text' : List ℕ) (report report' : Report)
    → number < length all → entity ≡ get_or all number entity → RunTo table moment all number text report
    → text' ≡ text ++ added_text (nat_lt 0 report.taken) table moment (entity_verdict table entity)
    → report' ≡ with_verdict number (entity_verdict table entity) (with_passed (passed_in table entity) report)
    → RunTo table moment all (number + 1) text' report'
run_goes_on table moment all number entity text text' report report' within is h text-is report-is =
    let left : drop number all ≡ entity ∷ drop (number + 1) all = drop_more all number entity within ∙ ap (λ y. y ∷ drop (number + 1) all) (sym is) in
    let sum : sum_by (passed_in table) (drop number all) ≡ passed_in table entity + sum_by (passed_in table) (drop (number + 1) all) =
    sum_by-drop_more (passed_in table) all number entity within ∙ ap (λ y. passed_in table y + sum_by (passed_in table) (drop (number + 1) all)) (sym is) in
    let whole = head_text moment ++ situations_text false table moment (situations table all) in
    let now : LeftOf table moment (entity_verdict table entity ∷ verdicts table (drop (number + 1) all)) (passed_in table entity + sum_by (passed_in table) (drop (number + 1) all))
    whole (length (situations table all)) (passed_count table all) (aside_all (verdicts table all)) number text report =
    subst (λ p. LeftOf table moment (entity_verdict table entity ∷ verdicts table (drop (number + 1) all)) p whole (length (situations table all)) (passed_count table all)
    (aside_all (verdicts table all)) number text report) sum
    (subst (λ (l : List Entity). LeftOf table moment (verdicts table l) (sum_by (passed_in table) (drop number all)) whole (length (situations table all)) (passed_count table all)
    (aside_all (verdicts table all)) number text report) left h) in
    one_more table moment (entity_verdict table entity) (verdicts table (drop (number + 1) all)) (passed_in table entity) (sum_by (passed_in table) (drop (number + 1) all))
    whole (length (situations table all)) (passed_count table all) (aside_all (verdicts table all)) number text text' report report' now text-is report-is

-- the text and the report at the end
pub run_ends : (table : Table) (moment : ℤ) (all : List Entity) (number : ℕ) (text : List ℕ) (report : Report) → length all ≤ number
    → RunTo table moment all number text report
    → (text ++ (93 ∷ tail_text) ≡ delivery_text table moment (situations table all)) × (report ≡ report_on table all)
run_ends table moment all number text report past h =
    let whole = head_text moment ++ situations_text false table moment (situations table all) in
    let none : drop number all ≡ [] = at_drop_all (λ l. l) all number past in
    let done = all_done table moment whole (length (situations table all)) (passed_count table all) (aside_all (verdicts table all)) number text report
    (subst (λ (l : List Entity). LeftOf table moment (verdicts table l) (sum_by (passed_in table) l) whole (length (situations table all)) (passed_count table all)
    (aside_all (verdicts table all)) number text report) none h) in
    (sym (append_assoc text (93 ∷ []) tail_text) ∙ ap (λ l. l ++ tail_text) done.0 ∙ delivery table moment (situations table all), done.1)

-- ---- an alert without a fault

bound_told : (member : Member) (bound : Option ℕ) → bound_fault member bound ≡ None → IsBound bound
bound_told member None h = tt
bound_told member (Some secs) h = by (is_moment (pos secs)) refl h
  where
    by : (b : Bool) → is_moment (pos secs) ≡ b → (if b then None else Some (BadField member)) ≡ None → secs ≤ last_moment
    by false e h = absurd (cc)
    by true e h = omega (arith, ints, (and_parts (int_le (pos 0) (pos secs)) (int_le (pos secs) (pos last_moment)) e).1)

all_told : (periods : List Period) → periods_fault periods ≡ None → AllByRecursion IsTold periods
all_told [] h = tt
all_told (period ∷ others) h =
    let cut = or_neither (period_fault period) (periods_fault others) h in
    let ends = or_neither (bound_fault Member.StartTime period.start) (bound_fault Member.EndTime period.end) cut.0 in
    ((bound_told Member.StartTime period.start ends.0, bound_told Member.EndTime period.end ends.1), all_told others cut.1)

pub told : (id : List ℕ) (alert : Alert) (named : ℕ) → None ≡ fault_by id alert named → All IsTold alert.periods
told id alert named h =
    let cut = or_neither (number_fault id) (option_or (periods_fault alert.periods) (none_named named)) (sym h) in
    All-from_recursion IsTold alert.periods (all_told alert.periods (or_neither (periods_fault alert.periods) (none_named named) cut.1).0)

-- what an alert is, by its fault
pub verdict_by : (table : Table) (id : List ℕ) (alert : Alert) (named : ℕ) (fault : Option Fault) → named ≡ length (all_named table alert.selectors)
    → fault ≡ fault_by id alert named → unless_fault fault (situation_of id (sense table alert)) ≡ verdict table id alert
verdict_by table id alert named fault count is =
    ap (λ f. unless_fault f (situation_of id (sense table alert)))
    (is ∙ ap (λ f. option_or (number_fault id) (option_or (periods_fault alert.periods) f)) (ap none_named count ∙ none_is (all_named table alert.selectors)))
