-- A situation that was read can be said.
use Rattle.std.proofs.Common.{◌≡◌, ℕ, ◌<◌, ◌-◌, List, [], ◌∷◌, length, Bool, true, false, if◌then◌else◌, position, bytes_eq, Option, Some, None, Result, Ok, Err, codes, refl, ap, subst, ◌∙◌, ℤ, pos, arith}
use Rattle.std.specs.List.{list_all}
use Rattle.gw_base.specs.declared.member.Member.{Member}
use Rattle.timetable.specs.Table.{Table}
use Rattle.gw_base.specs.Chains.{◌>>=◌}
use Rattle.journey_model.specs.Schedules.{Schedule}
use Rattle.journey_model.specs.declared.fault.Fault.{Fault}
use Rattle.journey_model.specs.declared.fault.Fault.TheVariants.{BadField}
use Rattle.journey_model.specs.declared.situation.Ref.{Ref}
use Rattle.journey_model.specs.declared.situation.Ref.TheVariants.{Route, Stop, Journey}
use Rattle.journey_model.specs.declared.situation.Situation.{Situation}
use Rattle.serde_json.specs.Data.{Data}
use Rattle.siri_json.specs.Fields.{optional_member}
use Rattle.siri_json.specs.Forms.{is_object, text}
use Rattle.siri_situations.specs.Affected.{affected, journey_reference, known, line_reference, references, stop_reference, unless_none}
use Rattle.siri_situations.specs.Periods.{periods}
use Rattle.siri_situations.specs.Senses as senses
use Rattle.siri_situations.specs.Situations as spec
use Rattle.siri_situations.specs.Situations.{condition, effect, head, situation, situation_of, touched, verdict, words}
use Rattle.reverse_alerts.specs.Kept.{is_journey, is_route, is_stop}
use Rattle.reverse_alerts.proofs.FoundForms.{parts-of, periods-found, same-ok, text-filled}
use Rattle.reverse_alerts.proofs.FoundRefs.{AreThere, Makes, all-there, made-is}
use Rattle.reverse_alerts.proofs.Names.{position-within}
use Rattle.reverse_alerts.proofs.ReadAffects.{all_below}
use Rattle.reverse_alerts.proofs.ReadForms.{bound, down, object_in}
use Rattle.reverse_alerts.proofs.ReadSituation.{effect_way}
use Rattle.reverse_alerts.proofs.Sayable.{IsCause, IsEffect, IsSayable, additional, delays, detour, is_filled, is_period, modified, no_service, other, technical, unknown_cause, unknown_effect, weather}

-- ---- its cause and its effect

found-cause : (tree : Data) → IsCause (senses.cause tree)
found-cause tree =
    by (senses.is_present (codes "EquipmentReason") tree) (senses.is_present (codes "EnvironmentReason") tree)
    (senses.is_present (codes "PersonnelReason") tree) (senses.is_present (codes "MiscellaneousReason") tree)
  where
    by : (a b c d : Bool) → IsCause (if a then pos 3 else (if b then pos 8 else (if c then pos 2 else (if d then pos 2 else pos 1))))
    by true b c d = technical refl
    by false true c d = weather refl
    by false false true d = other refl
    by false false false true = other refl
    by false false false false = unknown_cause refl

named-effect : (word : List ℕ) → IsEffect (senses.effect_named word)
named-effect word =
    by (bytes_eq word (codes "cancelled")) (bytes_eq word (codes "noService")) (bytes_eq word (codes "delayed")) (bytes_eq word (codes "diverted"))
    (bytes_eq word (codes "additionalService")) (bytes_eq word (codes "altered")) (bytes_eq word (codes "disrupted"))
  where
    by : (a b c d e f g : Bool) → IsEffect (
        if a then pos 1 else
        (if b then pos 1 else
        (if c then pos 3 else
        (if d then pos 4 else
        (if e then pos 5 else
        (if f then pos 6 else
        (if g then pos 6 else pos 8)))))))
    by true b c d e f g = no_service refl
    by false true c d e f g = no_service refl
    by false false true d e f g = delays refl
    by false false false true e f g = detour refl
    by false false false false true f g = additional refl
    by false false false false false true g = modified refl
    by false false false false false false true = modified refl
    by false false false false false false false = unknown_effect refl

told-effect : (told : Option (List ℕ)) → IsEffect (senses.effect_of told)
told-effect None = unknown_effect refl
told-effect (Some word) = named-effect word

found-effect : (tree : Data) (number : ℤ) → effect tree ≡ Ok number → IsEffect number
found-effect tree number e =
    let all = parts-of (down effect_way (tree ∷ [])) number (λ all. condition all >>= λ told. Ok (senses.effect_of told)) e in
    let told = parts-of (condition all.0) number (λ told. Ok (senses.effect_of told)) all.2 in
    subst IsEffect (same-ok {E = Fault} _ _ told.2) (told-effect told.0)

-- ---- what it affects

makes : (table : Table) → Makes (line_reference table) (stop_reference table) (journey_reference table) (λ one. one.known) table
makes table = record {
  lines = λ id one e. made-is table is_route (λ n. Route (record { 0 = n })) (position (bytes_eq id) table.routes)
      (λ n is. record { there = position-within id table.routes n is; is = refl }) one e;
  stops = λ id one e. made-is table is_stop (λ n. Stop (record { 0 = n })) (position (bytes_eq id) table.stops)
      (λ n is. record { there = position-within id table.stops n is; is = refl }) one e;
  journeys = λ on id one h e. made-is table is_journey (λ n. Journey (record { 0 = n }) on) (position (bytes_eq id) table.trips)
      (λ n is. record { there = (position-within id table.trips n is, h); is = refl }) one e;
}

unless-some : (first : Member) (count unknown : ℕ) (refs kept : List Ref) → unless_none first count refs ≡ Ok (kept, unknown) → (refs ≡ kept) × (0 < length kept)
unless-some first count unknown [] kept e = cc
unless-some first count unknown (ref ∷ refs) kept e =
    let some : 0 < length (ref ∷ refs) = omega arith in
    let both : (ref ∷ refs, count) ≡ (kept, unknown) = same-ok {E = Fault} _ _ e in
    let same : ref ∷ refs ≡ kept = ap (λ (p : List Ref × ℕ). p.0) both in
    (same, subst (λ all. 0 < length all) same some)

-- what is known of references, where that is what a situation affects
pub record Affects (table : Table) (refs : List Ref) : Type 0 where
  pub there : AreThere table refs
  pub some : 0 < length refs

found-affects : (table : Table) (tree : Data) (kept : List Ref) (unknown : ℕ) → (references table tree >>= affected) ≡ Ok (kept, unknown) → Affects table kept
found-affects table tree kept unknown e =
    let all = parts-of (references table tree) (kept, unknown) affected e in
    let way = parts-of (object_in Member.Affects tree) all.0 (all_below (line_reference table) (stop_reference table) (journey_reference table)) all.1 in
    let there = all-there (line_reference table) (stop_reference table) (journey_reference table) (λ one. one.known) table (makes table) way.0 all.0 way.2 in
    (elim all.0 as (λ refs. affected refs ≡ Ok (kept, unknown) → AreThere table (known refs) → Affects table kept) [
      | [] ↦ λ e there. cc
      | first ∷ others ↦ λ e there.
          let parts = unless-some first.member (length (first ∷ others) - length (known (first ∷ others))) unknown (known (first ∷ others)) kept e in
          record { there = subst (AreThere table) parts.0 there; some = parts.1 }
    ]) all.2 there

-- ---- the situation

-- a part of what was found
field-of : {A B E : Type 0} (a b : A) → ◌≡◌ {A = Result A E} (Ok a) (Ok b) → (part : A → B) → part a ≡ part b
field-of a b e part = ap part (same-ok a b e)

found-situation : (schedule : Schedule) (tree : Data) (one : Situation) (unknown : ℕ) → situation schedule tree ≡ Ok (one, unknown) → IsSayable schedule.table one
found-situation schedule tree one unknown e =
    let table = schedule.table in
    let said = parts-of (spec.content schedule.zone tree) (one, unknown)
    (λ all. touched table tree >>= λ touches. (affected touches.0 >>= λ affects. Ok (situation_of all (senses.cause tree) touches.1 affects.0, affects.1))) e in
    let touches = parts-of (touched table tree) (one, unknown)
    (λ touches. affected touches.0 >>= λ affects. Ok (situation_of said.0 (senses.cause tree) touches.1 affects.0, affects.1)) said.2 in
    let affects = parts-of (affected touches.0.0) (one, unknown)
    (λ affects. Ok (situation_of said.0 (senses.cause tree) touches.0.1 affects.0, affects.1)) touches.2 in
    let first = parts-of (head tree) said.0
    (λ first. periods schedule.zone tree >>= λ holds. (words tree >>= λ texts. Ok (record { head = first; periods = holds; words = texts }))) said.1 in
    let holds = parts-of (periods schedule.zone tree) said.0 (λ holds. words tree >>= λ texts. Ok (record { head = first.0; periods = holds; words = texts })) first.2 in
    let texts = parts-of (words tree) said.0 (λ texts. Ok (record { head = first.0; periods = holds.0; words = texts })) holds.2 in
    let summary = parts-of (optional_member text Member.Summary tree) texts.0
    (λ summary. optional_member text Member.Description tree >>= λ description. Ok (record { summary = summary; description = description })) texts.1 in
    let description = parts-of (optional_member text Member.Description tree) texts.0
    (λ description. Ok (record { summary = summary.0; description = description })) summary.2 in
    let refs = parts-of (references table tree) touches.0 (λ all. effect tree >>= λ number. Ok (all, number)) touches.1 in
    let number = parts-of (effect tree) touches.0 (λ number. Ok (refs.0, number)) refs.2 in
    let affected_by = bound (references table tree) refs.0 affected refs.1 ∙ ap affected (field-of {E = Fault} _ touches.0 number.2 (λ both. both.0)) ∙ affects.1 in
    let there = found-affects table tree affects.0.0 affects.0.1 affected_by in
    let same = field-of {E = Fault} _ (one, unknown) affects.2 (λ both. both.0) in
    subst (IsSayable table) same (record {
      periods = subst (λ all. list_all is_period all ≡ true) (field-of {E = Fault} _ said.0 texts.2 (λ all. all.periods))
          (periods-found schedule.zone tree holds.0 holds.1);
      refs = there.there.each;
      some = there.some;
      kinds = there.there.kinds;
      cause = found-cause tree;
      effect = subst IsEffect (field-of {E = Fault} _ touches.0 number.2 (λ both. both.1)) (found-effect tree number.0 number.1);
      summary = subst (λ t. is_filled t ≡ true)
          (field-of {E = Fault} _ texts.0 description.2 (λ all. all.summary) ∙ field-of {E = Fault} _ said.0 texts.2 (λ all. all.words.summary))
          (text-filled Member.Summary tree summary.0 summary.1);
      description = subst (λ t. is_filled t ≡ true)
          (field-of {E = Fault} _ texts.0 description.2 (λ all. all.description) ∙ field-of {E = Fault} _ said.0 texts.2 (λ all. all.words.description))
          (text-filled Member.Description tree description.0 description.1);
    })

pub found-sayable : (schedule : Schedule) (tree : Data) (one : Situation) (unknown : ℕ) → verdict schedule tree ≡ Ok (one, unknown) → IsSayable schedule.table one
found-sayable schedule tree one unknown e = by (is_object tree) e
  where
    by : (b : Bool) → (if b then situation schedule tree else Err (BadField Member.PtSituationElement)) ≡ Ok (one, unknown) → IsSayable schedule.table one
    by true e = found-situation schedule tree one unknown e
    by false e = cc
