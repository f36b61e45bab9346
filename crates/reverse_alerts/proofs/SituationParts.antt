-- The tree of a situation as an object whose members may be missing, and what each name finds there.
use Rattle.std.proofs.Common.{◌≡◌, ℕ, List, [], ◌∷◌, ◌++◌, map, if◌then◌else◌, option_map, Option, Some, None, codes, append-nil, append_assoc, refl, sym, ap, subst, ◌∙◌, ℤ, pos, int_eq}
use Rattle.gw_base.proofs.Elements.{or_none}
use Rattle.timetable.specs.Table.{Table}
use Rattle.journey_model.specs.declared.situation.Situation.{Situation}
use Rattle.serde_json.specs.Data.{Data, string}
use Rattle.serde_json.specs.Find.{get}
use Rattle.siri_json.specs.Trees.{array_of, moment_tree, object_of}
use Rattle.reverse_alerts.specs.SituationTree.{Named, affects_tree, condition_of, consequences_of, period_tree, periods_member, reason_member, reason_of, situation_tree, text_member}
use Rattle.reverse_alerts.proofs.Blocks.{block, blocks, found}
use Rattle.reverse_alerts.proofs.ReadForms.{array_if_any}
use Rattle.reverse_alerts.proofs.Sayable.{IsCause, other, technical, unknown_cause, weather}

-- what stands in it
pub record Trees : Type 0 where
  pub affects : Data
  pub consequences : Option Data
  pub creation : Data
  pub description : Option Data
  pub environment : Option Data
  pub equipment : Option Data
  pub miscellaneous : Option Data
  pub number : Data
  pub summary : Option Data
  pub periods : Option Data

abbrev pub parts : Trees → List (List ℕ × Option Data)
parts all =
    (codes "Affects", Some all.affects)
    ∷ (codes "Consequences", all.consequences)
    ∷ (codes "CreationTime", Some all.creation)
    ∷ (codes "Description", all.description)
    ∷ (codes "EnvironmentReason", all.environment)
    ∷ (codes "EquipmentReason", all.equipment)
    ∷ (codes "MiscellaneousReason", all.miscellaneous)
    ∷ (codes "SituationNumber", Some all.number)
    ∷ (codes "Summary", all.summary)
    ∷ (codes "ValidityPeriod", all.periods)
    ∷ []

abbrev pub consequences_tree : List ℕ → Data
consequences_tree word = object_of ((codes "Consequence", array_of (object_of ((codes "Condition", string word) ∷ []) ∷ [])) ∷ [])

-- the reason of a cause, where that is the cause
abbrev pub reason_if : ℤ → ℤ → Option Data
reason_if number cause = if int_eq cause number then Some (string (codes "unknown")) else None

abbrev pub trees_of : Table → ℤ → Situation → Trees
trees_of table moment one = record {
  affects = affects_tree table one.refs;
  consequences = option_map consequences_tree (condition_of one.effect);
  creation = moment_tree moment;
  description = option_map string one.description;
  environment = reason_if (pos 8) one.cause;
  equipment = reason_if (pos 3) one.cause;
  miscellaneous = reason_if (pos 2) one.cause;
  number = string one.number;
  summary = option_map string one.summary;
  periods = array_if_any (map period_tree one.periods);
}

-- ---- the members that may be missing

text-block : (name : List ℕ) (t : Option (List ℕ)) → text_member name t ≡ block name (option_map string t)
text-block name None = refl
text-block name (Some t) = refl

consequences-block : (word : Option (List ℕ)) → consequences_of word ≡ block (codes "Consequences") (option_map consequences_tree word)
consequences-block None = refl
consequences-block (Some word) = refl

periods-block : (trees : List Data) → periods_member trees ≡ block (codes "ValidityPeriod") (array_if_any trees)
periods-block [] = refl
periods-block (tree ∷ trees) = refl

-- the reason stands under one of three names
abbrev HasReasons : Named → ℤ → Type 0
HasReasons rest cause = reason_member (reason_of cause) ++ rest
    ≡ block (codes "EnvironmentReason") (reason_if (pos 8) cause)
    ++ (block (codes "EquipmentReason") (reason_if (pos 3) cause) ++ (block (codes "MiscellaneousReason") (reason_if (pos 2) cause) ++ rest))

reasons : (rest : Named) (cause : ℤ) → IsCause cause → HasReasons rest cause
reasons rest cause (unknown_cause e) = subst (HasReasons rest) (sym e) refl
reasons rest cause (other e) = subst (HasReasons rest) (sym e) refl
reasons rest cause (technical e) = subst (HasReasons rest) (sym e) refl
reasons rest cause (weather e) = subst (HasReasons rest) (sym e) refl

regroup : {A : Type 0} (x t n : A) (c d r s p : List A) → x ∷ c ++ t ∷ d ++ r ++ n ∷ s ++ p ≡ x ∷ (c ++ (t ∷ (d ++ (r ++ (n ∷ (s ++ p))))))
regroup x t n c d r s p = simp append_assoc

pub situation-parts : (table : Table) (moment : ℤ) (one : Situation) → IsCause one.cause
    → situation_tree table moment one ≡ object_of (blocks (parts (trees_of table moment one)))
situation-parts table moment one h =
    let of = trees_of table moment one in
    let x : List ℕ × Data = (codes "Affects", of.affects) in
    let t : List ℕ × Data = (codes "CreationTime", of.creation) in
    let n : List ℕ × Data = (codes "SituationNumber", of.number) in
    let reason = reason_member (reason_of one.cause) in
    let c = consequences-block (condition_of one.effect) in
    let d = text-block (codes "Description") one.description in
    let s = text-block (codes "Summary") one.summary in
    let p = periods-block (map period_tree one.periods) in
    let consequences = block (codes "Consequences") of.consequences in
    let description = block (codes "Description") of.description in
    let summary = block (codes "Summary") of.summary in
    let periods = block (codes "ValidityPeriod") of.periods in
    ap object_of (
    regroup x t n (consequences_of (condition_of one.effect)) (text_member (codes "Description") one.description) reason
    (text_member (codes "Summary") one.summary) (periods_member (map period_tree one.periods))
    ∙ (λ i. x ∷ (c i ++ (t ∷ (d i ++ (reason ++ (n ∷ (s i ++ p i)))))))
    ∙ ap (λ (last : Named). x ∷ (consequences ++ (t ∷ (description ++ (reason ++ (n ∷ (summary ++ last))))))) (sym (append-nil periods))
    ∙ ap (λ (rest : Named). x ∷ (consequences ++ (t ∷ (description ++ rest)))) (reasons (n ∷ (summary ++ (periods ++ []))) one.cause h))

-- ---- what each name finds

pub record HasParts (all : Trees) (tree : Data) : Type 0 where
  pub affects : get (codes "Affects") tree ≡ Some all.affects
  pub consequences : get (codes "Consequences") tree ≡ all.consequences
  pub description : get (codes "Description") tree ≡ all.description
  pub environment : get (codes "EnvironmentReason") tree ≡ all.environment
  pub equipment : get (codes "EquipmentReason") tree ≡ all.equipment
  pub miscellaneous : get (codes "MiscellaneousReason") tree ≡ all.miscellaneous
  pub personnel : get (codes "PersonnelReason") tree ≡ None
  pub progress : get (codes "Progress") tree ≡ None
  pub number : get (codes "SituationNumber") tree ≡ Some all.number
  pub summary : get (codes "Summary") tree ≡ all.summary
  pub periods : get (codes "ValidityPeriod") tree ≡ all.periods
  pub version : get (codes "Version") tree ≡ None

parts-found : (all : Trees) → HasParts all (object_of (blocks (parts all)))
parts-found all = record {
  affects = found (codes "Affects") (parts all);
  consequences = found (codes "Consequences") (parts all) ∙ or_none all.consequences;
  description = found (codes "Description") (parts all) ∙ or_none all.description;
  environment = found (codes "EnvironmentReason") (parts all) ∙ or_none all.environment;
  equipment = found (codes "EquipmentReason") (parts all) ∙ or_none all.equipment;
  miscellaneous = found (codes "MiscellaneousReason") (parts all) ∙ or_none all.miscellaneous;
  personnel = found (codes "PersonnelReason") (parts all);
  progress = found (codes "Progress") (parts all);
  number = found (codes "SituationNumber") (parts all);
  summary = found (codes "Summary") (parts all) ∙ or_none all.summary;
  periods = found (codes "ValidityPeriod") (parts all) ∙ or_none all.periods;
  version = found (codes "Version") (parts all);
}

pub has-parts : (table : Table) (moment : ℤ) (one : Situation) → IsCause one.cause → HasParts (trees_of table moment one) (situation_tree table moment one)
has-parts table moment one h = subst (HasParts (trees_of table moment one)) (sym (situation-parts table moment one h)) (parts-found (trees_of table moment one))
