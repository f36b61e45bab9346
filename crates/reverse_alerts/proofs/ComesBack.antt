-- A situation that was read comes back from its alert.
use Rattle.std.proofs.Common.{◌≡◌, ℕ, ◌<◌, List, [], ◌∷◌, length, map, Bool, true, ◌&&◌, ◌||◌, if◌then◌else◌, is_some, Option, Some, None, Ok, refl, ap, ◌∙◌, arith}
use Rattle.std.specs.List.{list_all}
use Rattle.std.specs.Option.{option_or}
use Rattle.std.proofs.lemmas.Bool.{and_parts}
use Rattle.gw_base.specs.declared.member.Member.{Member}
use Rattle.gw_base.specs.Chains.{unless_fault}
use Rattle.timetable.specs.Sound.{IsSound}
use Rattle.timetable.specs.Table.{Table}
use Rattle.journey_model.specs.Schedules.{Schedule}
use Rattle.journey_model.specs.declared.fault.Fault.TheVariants.{BadField}
use Rattle.journey_model.specs.declared.situation.Ref.{Ref}
use Rattle.journey_model.specs.declared.situation.Situation.{Situation}
use Rattle.journey_model.specs.declared.situation.ValidPeriod.{ValidPeriod}
use Rattle.serde_json.specs.Data.{Data}
use Rattle.alert_map.specs.Alerts.{alert, alert_id, period_of, selector_of, translations}
use Rattle.siri_situations.specs.Situations.{verdict}
use Rattle.reverse_alerts.specs.Again.{ComesBack}
use Rattle.reverse_alerts.specs.Kept.{all_named}
use Rattle.reverse_alerts.specs.Senses.{sense}
use Rattle.reverse_alerts.specs.Taken.{affects_fault, bound_fault, fault_of, period_fault, periods_fault, situation_of}
use Rattle.reverse_alerts.proofs.AlertSense.{sense-again, sense_of}
use Rattle.reverse_alerts.proofs.FromSituations.{found-sayable}
use Rattle.reverse_alerts.proofs.Names.{all-named-again}
use Rattle.reverse_alerts.proofs.Sayable.{IsSayable, is_bound, is_period}

-- ---- its alert has no fault

bound-right : (member : Member) (bound : Option ℕ) → is_bound bound ≡ true → bound_fault member bound ≡ None
bound-right member None h = refl
bound-right member (Some secs) h = ap (λ (b : Bool). if b then None else Some (BadField member)) h

period-right : (one : ValidPeriod) → is_period one ≡ true → period_fault (period_of one) ≡ None
period-right one h =
    let bounds = and_parts (is_bound one.start) (is_bound one.end) (and_parts (is_some one.start || is_some one.end) (is_bound one.start && is_bound one.end) h).1 in
    ap (λ first. option_or first (bound_fault Member.EndTime one.end)) (bound-right Member.StartTime one.start bounds.0)
    ∙ bound-right Member.EndTime one.end bounds.1

periods-right : (all : List ValidPeriod) → list_all is_period all ≡ true → periods_fault (map period_of all) ≡ None
periods-right [] h = refl
periods-right (one ∷ others) h =
    let parts = and_parts (is_period one) (list_all is_period others) h in
    ap (λ first. option_or first (periods_fault (map period_of others))) (period-right one parts.0) ∙ periods-right others parts.1

affects-right : (refs : List Ref) → 0 < length refs → affects_fault refs ≡ None
affects-right [] h = absurd (omega arith)
affects-right (ref ∷ refs) h = refl

no-fault : (table : Table) (one : Situation) → IsSound table → IsSayable table one → fault_of table (alert_id one.number) (alert table one) ≡ None
no-fault table one sound h =
    ap (λ first. option_or first (affects_fault (all_named table (map (selector_of table) one.refs)))) (periods-right one.periods h.periods)
    ∙ ap affects_fault (all-named-again table one.refs sound h.refs)
    ∙ affects-right one.refs h.some

-- ---- and comes back

same-alert : (table : Table) (one : Situation) (id : List ℕ) → IsSayable table one → alert table (situation_of id (sense_of one)) ≡ alert table one
same-alert table one id h =
    let kinds = h.kinds in
    λ i. record {
      periods = map period_of one.periods;
      selectors = map (selector_of table) (kinds i);
      cause = one.cause;
      effect = one.effect;
      header = translations one.summary;
      description = translations one.description;
    }

back-of : (table : Table) (one : Situation) → IsSound table → IsSayable table one → ComesBack table one
back-of table one sound h =
    let id = alert_id one.number in
    let source = alert table one in
    let back = situation_of id (sense table source) in
    record {
      back = back;
      is_taken = ap (λ fault. Some (unless_fault fault back)) (no-fault table one sound h);
      same = ap (λ said. alert table (situation_of id said)) (sense-again table one sound h) ∙ same-alert table one id h;
    }

-- the alert of a situation that was read is taken as a situation with the equal alert
pub comes_back : (schedule : Schedule) (tree : Data) (one : Situation) (unknown : ℕ) → IsSound schedule.table → verdict schedule tree ≡ Ok (one, unknown)
    → ComesBack schedule.table one
comes_back schedule tree one unknown sound e = back-of schedule.table one sound (found-sayable schedule tree one unknown e)
