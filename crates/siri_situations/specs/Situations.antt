-- What an item of a delivery of situations is: a situation, or the first fault for which it is set aside (SIRI 2.0,
-- PtSituationElement).
use Rattle.std.specs.Prelude.{ℕ, ℤ, List, [], ◌∷◌, map, Option, None, unwrap_or, Result, Ok, Err, if◌then◌else◌}
use Rattle.gw_base.specs.declared.member.Member.{Member}
use Rattle.gw_base.specs.Chains.{◌>>=◌}
use Rattle.journey_model.specs.Schedules.{Schedule}
use Rattle.journey_model.specs.declared.fault.Fault.{Fault}
use Rattle.journey_model.specs.declared.fault.Fault.TheVariants.{BadField}
use Rattle.journey_model.specs.declared.situation.Ref.{Ref}
use Rattle.journey_model.specs.declared.situation.Situation.{Situation}
use Rattle.serde_json.specs.Data.{Data}
use Rattle.service_day.specs.declared.zones.Rules.{Rules}
use Rattle.siri_json.specs.Fields.{optional_member, required_member}
use Rattle.siri_json.specs.Forms.{is_object, text, whole}
use Rattle.timetable.specs.Table.{Table}
use Rattle.siri_situations.specs.Affected.{affected, references}
use Rattle.siri_situations.specs.Frame.{items}
use Rattle.siri_situations.specs.Periods.{periods}
use Rattle.siri_situations.specs.Senses.{cause, effect_of, is_served}
use Rattle.siri_situations.specs.Steps.{walk}
use Rattle.siri_situations.specs.declared.affected.Reference.{Reference}
use Rattle.siri_situations.specs.declared.content.Head.{Head}
use Rattle.siri_situations.specs.declared.content.Content.{Content}
use Rattle.siri_situations.specs.declared.content.Words.{Words}
use Rattle.siri_situations.specs.declared.steps.Step.TheVariants.{Object, Repeated}

-- its number, its version, and whether it is served
abbrev pub head : Data → Result Head Fault
head tree = do
  number ← required_member text Member.SituationNumber tree
  version ← optional_member whole Member.Version tree
  progress ← optional_member text Member.Progress tree
  Ok (record { number = number; version = unwrap_or version 0; served = is_served progress })

-- its two texts
abbrev pub words : Data → Result Words Fault
words tree = do
  summary ← optional_member text Member.Summary tree
  description ← optional_member text Member.Description tree
  Ok (record { summary = summary; description = description })

-- what it says before what it affects
abbrev pub content : Rules → Data → Result Content Fault
content zone tree = do
  first ← head tree
  holds ← periods zone tree
  texts ← words tree
  Ok (record { head = first; periods = holds; words = texts })

-- its effect, by the condition of its first consequence
abbrev pub condition : List Data → Result (Option (List ℕ)) Fault
condition [] = Ok None
condition (first ∷ others) = optional_member text Member.Condition first

abbrev pub effect : Data → Result ℤ Fault
effect tree = do
  all ← walk (Object Member.Consequences ∷ Repeated Member.Consequence ∷ []) (tree ∷ [])
  told ← condition all
  Ok (effect_of told)

-- its references and its effect
abbrev pub touched : Table → Data → Result (List Reference × ℤ) Fault
touched table tree = do
  all ← references table tree
  number ← effect tree
  Ok (all, number)

-- a situation of what it says, its cause, its effect and what it affects
abbrev pub situation_of : Content → ℤ → ℤ → List Ref → Situation
situation_of all cause_number effect_number refs = record {
  number = all.head.number;
  version = all.head.version;
  served = all.head.served;
  periods = all.periods;
  refs = refs;
  cause = cause_number;
  effect = effect_number;
  summary = all.words.summary;
  description = all.words.description;
}

-- the situation, and how many of its references aren't known: the forms of all members come before what is known
abbrev pub situation : Schedule → Data → Result (Situation × ℕ) Fault
situation schedule tree = do
  all ← content schedule.zone tree
  touches ← touched schedule.table tree
  affects ← affected touches.0
  Ok (situation_of all (cause tree) touches.1 affects.0, affects.1)

-- what an item is: it has to be an object
abbrev pub verdict : Schedule → Data → Result (Situation × ℕ) Fault
verdict schedule tree = if is_object tree then situation schedule tree else Err (BadField Member.PtSituationElement)

-- the verdicts on all items of a tree in document order, or the member of its frame that is wrong
abbrev pub verdicts : Schedule → Data → Result (List (Result (Situation × ℕ) Fault)) Member
verdicts schedule root = do
  all ← items root
  Ok (map (verdict schedule) all)
