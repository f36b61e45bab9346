-- The tree of a situation is read as that situation.
use Rattle.std.proofs.Common.{◌≡◌, ℕ, ◌==◌, List, [], ◌∷◌, length, map, Bool, true, not, if◌then◌else◌, option_map, Option, Some, None, Result, Ok, Err, codes, refl, sym, ap, subst, ◌∙◌, ℤ, pos}
use Rattle.std.specs.List.{AllByRecursion}
use Rattle.gw_base.specs.declared.member.Member.{Member}
use Rattle.timetable.specs.Sound.{IsSound}
use Rattle.timetable.specs.Table.{Table}
use Rattle.gw_base.specs.Chains.{◌>>=◌}
use Rattle.journey_model.specs.Schedules.{Schedule}
use Rattle.journey_model.specs.declared.fault.Fault.{Fault}
use Rattle.journey_model.specs.declared.fault.Fault.TheVariants.{BadField}
use Rattle.journey_model.specs.declared.situation.Ref.{Ref}
use Rattle.journey_model.specs.declared.situation.Situation.{Situation}
use Rattle.journey_model.specs.declared.situation.ValidPeriod.{ValidPeriod}
use Rattle.serde_json.specs.Data.{Data, string}
use Rattle.serde_json.specs.Find.{get}
use Rattle.service_day.specs.declared.zones.Rules.{Rules}
use Rattle.siri_json.specs.Trees.{array_of, members, object_of}
use Rattle.siri_json.specs.Fields.{form_at, optional, optional_member, required_member}
use Rattle.siri_json.specs.Forms.{is_object, text, whole}
use Rattle.siri_json.specs.Frame.{repeated_at}
use Rattle.siri_situations.specs.Affected.{affected, journey_reference, line_reference, references, stop_reference}
use Rattle.siri_situations.specs.Periods.{periods}
use Rattle.siri_situations.specs.Senses as senses
use Rattle.siri_situations.specs.Situations as spec
use Rattle.siri_situations.specs.Situations.{condition, effect, head, situation, touched, verdict, words}
use Rattle.reverse_alerts.specs.Again.{taken_again}
use Rattle.reverse_alerts.specs.SituationTree.{condition_of, situation_tree}
use Rattle.reverse_alerts.proofs.FromAlerts.{IsSaid}
use Rattle.reverse_alerts.proofs.ReadAffects.{affected-read, references-read}
use Rattle.reverse_alerts.proofs.ReadForms.{bound, down, none-read, object-read, object_in, objects_in, repeated-read, step-from, text-if-any-read, text-read}
use Rattle.reverse_alerts.proofs.ReadPeriods.{periods-read}
use Rattle.reverse_alerts.proofs.ReadRefs.{said}
use Rattle.reverse_alerts.proofs.Sayable.{IsCause, IsEffect, additional, delays, detour, is_filled, modified, no_service, other, technical, unknown_cause, unknown_effect, weather}
use Rattle.reverse_alerts.proofs.SituationParts.{HasParts, consequences_tree, has-parts, reason_if, trees_of}

-- ---- what it says before what it affects

head-by : (tree : Data) (number : List ℕ) → required_member text Member.SituationNumber tree ≡ Ok number → optional_member whole Member.Version tree ≡ Ok None
    → optional_member text Member.Progress tree ≡ Ok None → head tree ≡ Ok (record { number = number; version = 0; served = true })
head-by tree number first second third = rw (first, second, third) refl

words-by : (tree : Data) (summary description : Option (List ℕ)) → optional_member text Member.Summary tree ≡ Ok summary
    → optional_member text Member.Description tree ≡ Ok description → words tree ≡ Ok (record { summary = summary; description = description })
words-by tree summary description first second = rw (first, second) refl

said-by : (zone : Rules) (tree : Data) (number : List ℕ) (holds : List ValidPeriod) (summary description : Option (List ℕ))
    → head tree ≡ Ok (record { number = number; version = 0; served = true }) → periods zone tree ≡ Ok holds
    → words tree ≡ Ok (record { summary = summary; description = description })
    → spec.content zone tree ≡ Ok (record { head = record { number = number; version = 0; served = true }; periods = holds; words = record { summary = summary; description = description } })
said-by zone tree number holds summary description a b c = rw (a, b, c) refl

none-whole : (tree : Data) → get (codes "Version") tree ≡ None → optional_member whole Member.Version tree ≡ Ok None
none-whole tree e = ap (λ found. optional Member.Version (form_at whole found)) e

none-text : (tree : Data) → get (codes "Progress") tree ≡ None → optional_member text Member.Progress tree ≡ Ok None
none-text tree e = ap (λ found. optional Member.Progress (form_at text found)) e

said-read : (zone : Rules) (table : Table) (moment : ℤ) (tree : Data) (one : Situation) → IsSaid table one → HasParts (trees_of table moment one) tree
    → spec.content zone tree ≡ Ok (record {
      head = record { number = one.number; version = 0; served = true };
      periods = one.periods;
      words = record { summary = one.summary; description = one.description };
    })
said-read zone table moment tree one h has =
    let can = h.sayable in
    said-by zone tree one.number one.periods one.summary one.description
    (head-by tree one.number (text-read Member.SituationNumber tree one.number has.number h.number) (none-whole tree has.version) (none-text tree has.progress))
    (periods-read zone tree one.periods has.periods can.periods)
    (words-by tree one.summary one.description (text-if-any-read Member.Summary tree one.summary has.summary can.summary)
    (text-if-any-read Member.Description tree one.description has.description can.description))

-- ---- its effect

abbrev consequence_tree : List ℕ → Data
consequence_tree word = object_of ((codes "Condition", string word) ∷ [])

abbrev pub effect_way : List (Data → Result (List Data) Fault)
effect_way = object_in Member.Consequences ∷ objects_in Member.Consequence ∷ []

effect-by : (tree : Data) (all : List Data) (told : Option (List ℕ)) → down effect_way (tree ∷ []) ≡ Ok all → condition all ≡ Ok told
    → effect tree ≡ Ok (senses.effect_of told)
effect-by tree all told way first =
    bound (down effect_way (tree ∷ [])) all (λ found. condition found >>= λ one. Ok (senses.effect_of one)) way
    ∙ bound (condition all) told (λ one. Ok (senses.effect_of one)) first

effect-none : (tree : Data) → get (codes "Consequences") tree ≡ None → effect tree ≡ Ok (pos 8)
effect-none tree e =
    effect-by tree [] None (step-from (object_in Member.Consequences) (objects_in Member.Consequence ∷ []) tree [] (none-read Member.Consequences tree e)) refl

effect-some : (tree : Data) (word : List ℕ) → get (codes "Consequences") tree ≡ Some (consequences_tree word) → is_filled (Some word) ≡ true
    → effect tree ≡ Ok (senses.effect_named word)
effect-some tree word e some =
    effect-by tree (consequence_tree word ∷ []) (Some word)
    (step-from (object_in Member.Consequences) (objects_in Member.Consequence ∷ []) tree (consequences_tree word ∷ [])
    (object-read Member.Consequences tree (members ((codes "Consequence", array_of (consequence_tree word ∷ [])) ∷ [])) e)
    ∙ step-from (objects_in Member.Consequence) [] (consequences_tree word) (consequence_tree word ∷ [])
    (repeated-read Member.Consequence (consequences_tree word) (consequence_tree word ∷ []) refl refl))
    (text-if-any-read Member.Condition (consequence_tree word) (Some word) refl some)

abbrev ReadsEffect : Data → ℤ → Type 0
ReadsEffect tree number = get (codes "Consequences") tree ≡ option_map consequences_tree (condition_of number) → effect tree ≡ Ok number

effect-read : (tree : Data) (number : ℤ) → IsEffect number → ReadsEffect tree number
effect-read tree number (no_service e) = subst (ReadsEffect tree) (sym e) (λ has. effect-some tree (codes "noService") has refl)
effect-read tree number (delays e) = subst (ReadsEffect tree) (sym e) (λ has. effect-some tree (codes "delayed") has refl)
effect-read tree number (detour e) = subst (ReadsEffect tree) (sym e) (λ has. effect-some tree (codes "diverted") has refl)
effect-read tree number (additional e) = subst (ReadsEffect tree) (sym e) (λ has. effect-some tree (codes "additionalService") has refl)
effect-read tree number (modified e) = subst (ReadsEffect tree) (sym e) (λ has. effect-some tree (codes "altered") has refl)
effect-read tree number (unknown_effect e) = subst (ReadsEffect tree) (sym e) (λ has. effect-none tree has)

-- ---- its cause

abbrev is_there : Option Data → Bool
is_there reason = not (length (repeated_at reason) == 0)

cause-by : (tree : Data) (equipment environment miscellaneous : Option Data) → get (codes "EquipmentReason") tree ≡ equipment
    → get (codes "EnvironmentReason") tree ≡ environment → get (codes "PersonnelReason") tree ≡ None → get (codes "MiscellaneousReason") tree ≡ miscellaneous
    → senses.cause tree ≡ (if is_there equipment then pos 3 else (if is_there environment then pos 8 else (if is_there miscellaneous then pos 2 else pos 1)))
cause-by tree equipment environment miscellaneous a b c d = rw (a, b, c, d) refl

abbrev ReadsCause : Data → ℤ → Type 0
ReadsCause tree number = get (codes "EquipmentReason") tree ≡ reason_if (pos 3) number → get (codes "EnvironmentReason") tree ≡ reason_if (pos 8) number
    → get (codes "PersonnelReason") tree ≡ None → get (codes "MiscellaneousReason") tree ≡ reason_if (pos 2) number → senses.cause tree ≡ number

cause-read : (tree : Data) (number : ℤ) → IsCause number → ReadsCause tree number
cause-read tree number (unknown_cause e) = subst (ReadsCause tree) (sym e) (λ a b c d. cause-by tree None None None a b c d)
cause-read tree number (other e) = subst (ReadsCause tree) (sym e) (λ a b c d. cause-by tree None None (Some (string (codes "unknown"))) a b c d)
cause-read tree number (technical e) = subst (ReadsCause tree) (sym e) (λ a b c d. cause-by tree (Some (string (codes "unknown"))) None None a b c d)
cause-read tree number (weather e) = subst (ReadsCause tree) (sym e) (λ a b c d. cause-by tree None (Some (string (codes "unknown"))) None a b c d)

-- ---- the situation

touched-by : (table : Table) (tree : Data) (refs : List Ref) (number : ℤ)
    → references table tree ≡ Ok (map (said (line_reference table) (stop_reference table) (journey_reference table) table) refs) → effect tree ≡ Ok number
    → touched table tree ≡ Ok (map (said (line_reference table) (stop_reference table) (journey_reference table) table) refs, number)
touched-by table tree refs number first second = rw (first, second) refl

-- what a situation is that is served in version 0, by its cause
abbrev with_cause : Situation → ℤ → Situation
with_cause one number = record {
  number = one.number;
  version = 0;
  served = true;
  periods = one.periods;
  refs = one.refs;
  cause = number;
  effect = one.effect;
  summary = one.summary;
  description = one.description;
}

situation-by : (schedule : Schedule) (tree : Data) (one : Situation)
    → spec.content schedule.zone tree ≡ Ok (record {
      head = record { number = one.number; version = 0; served = true };
      periods = one.periods;
      words = record { summary = one.summary; description = one.description };
    })
    → touched schedule.table tree
    ≡ Ok (map (said (line_reference schedule.table) (stop_reference schedule.table) (journey_reference schedule.table) schedule.table) one.refs, one.effect)
    → affected (map (said (line_reference schedule.table) (stop_reference schedule.table) (journey_reference schedule.table) schedule.table) one.refs) ≡ Ok (one.refs, 0)
    → situation schedule tree ≡ Ok (with_cause one (senses.cause tree), 0)
situation-by schedule tree one first second third = rw (first, second, third) refl

verdict-by : (schedule : Schedule) (tree : Data) (answer : Result (Situation × ℕ) Fault) → is_object tree ≡ true → situation schedule tree ≡ answer → verdict schedule tree ≡ answer
verdict-by schedule tree answer object e = ap (λ (b : Bool). if b then situation schedule tree else Err (BadField Member.PtSituationElement)) object ∙ e

-- a situation that is served in version 0 is what it says
same-situation : (one : Situation) (number : ℤ) → number ≡ one.cause → one.version ≡ 0 → one.served ≡ true → with_cause one number ≡ one
same-situation one number why version served =
    let old = sym version in
    let stands = sym served in
    λ i. record {
      number = one.number;
      version = old i;
      served = stands i;
      periods = one.periods;
      refs = one.refs;
      cause = why i;
      effect = one.effect;
      summary = one.summary;
      description = one.description;
    }

tree-read : (schedule : Schedule) (moment : ℤ) (tree : Data) (one : Situation) → IsSound schedule.table → IsSaid schedule.table one → is_object tree ≡ true
    → HasParts (trees_of schedule.table moment one) tree → verdict schedule tree ≡ taken_again one
tree-read schedule moment tree one sound h object has =
    let can = h.sayable in
    let touches = touched-by schedule.table tree one.refs one.effect (references-read schedule.table tree one sound can has.affects)
    (effect-read tree one.effect can.effect has.consequences) in
    let reads = situation-by schedule tree one (said-read schedule.zone schedule.table moment tree one h has) touches
    (affected-read schedule.table one.refs sound can.refs can.some) in
    let why = cause-read tree one.cause can.cause has.equipment has.environment has.personnel has.miscellaneous in
    verdict-by schedule tree (Ok (with_cause one (senses.cause tree), 0)) object reads
    ∙ ap (λ one. Ok (one, 0)) (same-situation one (senses.cause tree) why h.version h.served)

pub situation-read : (schedule : Schedule) (moment : ℤ) (one : Situation) → IsSound schedule.table → IsSaid schedule.table one
    → verdict schedule (situation_tree schedule.table moment one) ≡ taken_again one
situation-read schedule moment one sound h =
    tree-read schedule moment (situation_tree schedule.table moment one) one sound h refl (has-parts schedule.table moment one h.sayable.cause)

-- and so are all
pub all-read : (schedule : Schedule) (moment : ℤ) (all : List Situation) → IsSound schedule.table → AllByRecursion (IsSaid schedule.table) all
    → map (verdict schedule) (map (situation_tree schedule.table moment) all) ≡ map taken_again all
all-read schedule moment [] sound h = refl
all-read schedule moment (one ∷ others) sound h =
    let first = situation-read schedule moment one sound h.0 in
    let rest = all-read schedule moment others sound h.1 in
    λ i. first i ∷ rest i
