-- The alerts of the situations that are taken have the senses of the alerts that they came from.
use Rattle.std.proofs.Common.{◌≡◌, ℕ, List, [], ◌∷◌, map, if◌then◌else◌, is_some, Option, Some, None, Result, Ok, Err, refl, sym, ap, ap₂, ◌∙◌}
use Rattle.std.specs.List.{cons_option}
use Rattle.gw_base.specs.declared.messages.Alert.{Alert}
use Rattle.gw_base.specs.declared.messages.Entity.{Entity}
use Rattle.timetable.specs.Sound.{IsSound}
use Rattle.timetable.specs.Table.{Table}
use Rattle.journey_model.specs.declared.fault.Fault.{Fault}
use Rattle.journey_model.specs.declared.situation.Situation.{Situation}
use Rattle.journey_model.specs.FeedReadings.{given}
use Rattle.reverse_alerts.specs.Kept.{all_named}
use Rattle.reverse_alerts.specs.Senses.{Sense, sense}
use Rattle.reverse_alerts.specs.Sx.{alert_sense}
use Rattle.reverse_alerts.specs.Taken.{alert_in, alerts, entity_verdict, fault_of, situation_of, situations}
use Rattle.reverse_alerts.proofs.FromAlerts.{of-alert, sayable-alert}
use Rattle.reverse_alerts.proofs.Grouped.{journeys-of, of-kinds, routes-of, stops-of}
use Rattle.reverse_alerts.proofs.AlertSense.{sense-again, sense_of}

-- the sense from which a situation was made
same-sense : (table : Table) (id : List ℕ) (source : Alert) → sense_of (situation_of id (sense table source)) ≡ sense table source
same-sense table id source =
    let refs = all_named table source.selectors in
    let kinds = of-kinds refs in
    let routes = routes-of _ _ _ kinds in
    let stops = stops-of _ _ _ kinds in
    let journeys = journeys-of _ _ _ kinds in
    let said = sense table source in
    λ i. record {
      periods = said.periods;
      routes = routes i;
      stops = stops i;
      journeys = journeys i;
      cause = said.cause;
      effect = said.effect;
      header = said.header;
      description = said.description;
    }

said-again : (table : Table) (id : List ℕ) (source : Alert) → IsSound table → fault_of table id source ≡ None
    → alert_sense table (situation_of id (sense table source)) ≡ sense table source
said-again table id source sound e =
    sense-again table (situation_of id (sense table source)) sound (sayable-alert table id source e) ∙ same-sense table id source

-- the situation of an entity, and the alert that it has
one-sense : (table : Table) (entity : Entity) (one : Situation) → IsSound table → entity_verdict table entity ≡ Some (Ok one)
    → map (alert_sense table) (one ∷ []) ≡ map (sense table) (cons_option (alert_in entity) [])
one-sense table entity one sound e =
    let from = of-alert table entity one e in
    ap (λ said. alert_sense table said ∷ []) from.is
    ∙ ap (λ said. said ∷ []) (said-again table entity.id from.source sound from.no_fault)
    ∙ ap (λ source. map (sense table) (cons_option source [])) (sym from.is_source)

-- one more
more-sense : (table : Table) (one : Situation) (source : Option Alert) (taken : List Situation) (sources : List Alert)
    → map (alert_sense table) (one ∷ []) ≡ map (sense table) (cons_option source []) → map (alert_sense table) taken ≡ map (sense table) sources
    → map (alert_sense table) (one ∷ taken) ≡ map (sense table) (cons_option source sources)
more-sense table one None taken sources first rest = cc
more-sense table one (Some source) taken sources first rest =
    let same : alert_sense table one ≡ sense table source = cc in
    ap₂ (λ (said : Sense) (others : List Sense). said ∷ others) same rest

pub senses : (table : Table) (entities : List Entity) → IsSound table
    → map (alert_sense table) (situations table entities) ≡ map (sense table) (alerts table entities)
senses table [] sound = refl
senses table (entity ∷ entities) sound = by (entity_verdict table entity) refl (senses table entities sound)
  where
    by : (verdict : Option (Result Situation Fault)) → entity_verdict table entity ≡ verdict
        → map (alert_sense table) (situations table entities) ≡ map (sense table) (alerts table entities)
        → map (alert_sense table) (cons_option (given verdict) (situations table entities))
        ≡ map (sense table) (cons_option (if is_some (given verdict) then alert_in entity else None) (alerts table entities))
    by None e rest = rest
    by (Some (Err fault)) e rest = rest
    by (Some (Ok one)) e rest = more-sense table one (alert_in entity) (situations table entities) (alerts table entities) (one-sense table entity one sound e) rest
