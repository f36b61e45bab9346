-- A situation is written in three parts.
use Rattle.std.proofs.Common.{◌≡◌, ◌∙◌, ◌++◌, ℕ, ℤ, Bool, List, Some, Result, Err, codes, ap, refl, sym}
use Rattle.std.proofs.lemmas.List.{append-nil}
use Rattle.gw_base.specs.declared.messages.Alert.{Alert}
use Rattle.timetable.specs.Table.{Table}
use Rattle.journey_model.specs.declared.fault.Fault.{Fault}
use Rattle.journey_model.specs.declared.report.Report.{Report}
use Rattle.journey_model.specs.declared.situation.Situation.{Situation}
use Rattle.reverse_alerts.specs.Kept.{all_named}
use Rattle.reverse_alerts.specs.Naming.{refs_of}
use Rattle.reverse_alerts.specs.Progress.{added_text, with_passed, with_verdict}
use Rattle.reverse_alerts.specs.Senses.{cause_of, effect_of, first_text, holding, sense}
use Rattle.reverse_alerts.specs.SituationTexts.{situation_text, valid_text, what_text, why_text}
use Rattle.reverse_alerts.specs.Taken.{situation_of}
use Rattle.reverse_alerts.specs.declared.selectors.NamedRefs.{NamedRefs}
use Rattle.reverse_alerts.proofs.NamingLemmas.{journeys_again, routes_again, stops_again}

-- what it affects and how, why, and when
pub three_parts : (table : Table) (moment : ℤ) (id : List ℕ) (alert : Alert) (found : NamedRefs) → found ≡ refs_of (all_named table alert.selectors)
    → what_text table moment found.routes found.stops found.journeys (effect_of alert.effect)
    ++ why_text id (cause_of alert.cause) (first_text alert.header) (first_text alert.description)
    ++ (valid_text (holding alert.periods) ++ codes "}")
    ≡ situation_text table moment (situation_of id (sense table alert))
unfolding situation_text
three_parts table moment id alert found is =
    let all = all_named table alert.selectors in
    rw (is, routes_again all, stops_again all, journeys_again all) refl

-- an alert that is set aside adds nothing to the text, and its fault to the report
pub aside_text : (later : Bool) (table : Table) (moment : ℤ) (what : Result Situation Fault) (fault : Fault) (old new : List ℕ)
    → Err fault ≡ what → new ≡ old → new ≡ old ++ added_text later table moment (Some what)
aside_text later table moment what fault old new is same = rw (← is) (same ∙ sym (append-nil old))

pub aside_report : (number : ℕ) (what : Result Situation Fault) (fault : Fault) (passed : ℕ) (old between new : Report)
    → Err fault ≡ what → between ≡ with_passed passed old → new ≡ with_verdict number (Some (Err fault)) between
    → new ≡ with_verdict number (Some what) (with_passed passed old)
aside_report number what fault passed old between new is first second =
    second ∙ ap (with_verdict number (Some (Err fault))) first ∙ ap (λ w. with_verdict number (Some w) (with_passed passed old)) is
