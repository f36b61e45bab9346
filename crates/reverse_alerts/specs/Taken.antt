-- What becomes of the entities of a feed: the situation that an alert is, or the fault for which it is set aside (GTFS
-- Realtime reference, FeedEntity; SIRI 2.0, PtSituationElement).
use Rattle.std.specs.Prelude.{ℕ, ◌+◌, pos, min, true, List, [], ◌∷◌, ◌++◌, length, map, sum_by, Option, Some, None, is_some, option_map, Result, if◌then◌else◌}
use Rattle.std.specs.List.{filter_map}
use Rattle.std.specs.Option.{option_or}
use Rattle.gw_base.specs.Count.{last_count}
use Rattle.gw_base.specs.Moments.{is_moment}
use Rattle.gw_base.specs.declared.member.Member.{Member}
use Rattle.gw_base.specs.declared.messages.Alert.{Alert}
use Rattle.gw_base.specs.declared.messages.Entity.{Entity}
use Rattle.gw_base.specs.declared.messages.Period.{Period}
use Rattle.gw_base.specs.Chains.{unless_fault}
use Rattle.timetable.specs.Table.{Table}
use Rattle.journey_model.specs.declared.fault.Fault.{Fault}
use Rattle.journey_model.specs.declared.fault.Fault.TheVariants.{BadField, NoAffects}
use Rattle.journey_model.specs.declared.report.Report.{Report}
use Rattle.journey_model.specs.declared.situation.Ref.{Ref}
use Rattle.journey_model.specs.declared.situation.Situation.{Situation}
use Rattle.journey_model.specs.FeedReadings.{aside_all, given, given_all}
use Rattle.reverse_alerts.specs.Kept.{all_named, selectors_passed}
use Rattle.reverse_alerts.specs.Senses.{Sense, sense}

-- the situation of what an alert says, by the id of its entity: lines, then stops, then journeys
abbrev pub situation_of : List ℕ → Sense → Situation
situation_of id said = record {
  number = id;
  version = 0;
  served = true;
  periods = said.periods;
  refs = said.routes ++ said.stops ++ said.journeys;
  cause = said.cause;
  effect = said.effect;
  summary = said.header;
  description = said.description;
}

-- a situation has a number
abbrev pub number_fault : List ℕ → Option Fault
number_fault [] = Some (BadField Member.SituationNumber)
number_fault (byte ∷ bytes) = None

-- its periods begin and end at moments; the first that doesn't is told, its start first
abbrev pub bound_fault : Member → Option ℕ → Option Fault
bound_fault member None = None
bound_fault member (Some secs) = if is_moment (pos secs) then None else Some (BadField member)

abbrev pub period_fault : Period → Option Fault
period_fault period = option_or (bound_fault Member.StartTime period.start) (bound_fault Member.EndTime period.end)

abbrev pub periods_fault : List Period → Option Fault
periods_fault [] = None
periods_fault (period ∷ periods) = option_or (period_fault period) (periods_fault periods)

-- and it affects something
abbrev pub affects_fault : List Ref → Option Fault
affects_fault [] = Some NoAffects
affects_fault (ref ∷ refs) = None

-- the first fault of an alert
abbrev pub fault_of : Table → List ℕ → Alert → Option Fault
fault_of table id alert =
    option_or (number_fault id)
    (option_or (periods_fault alert.periods) (affects_fault (all_named table alert.selectors)))

-- what an alert is
abbrev pub verdict : Table → List ℕ → Alert → Result Situation Fault
verdict table id alert = unless_fault (fault_of table id alert) (situation_of id (sense table alert))

-- the alert of an entity: none where it is to be deleted or has none, and is then passed
abbrev pub alert_in : Entity → Option Alert
alert_in entity = if entity.deleted then None else entity.alert

abbrev pub entity_verdict : Table → Entity → Option (Result Situation Fault)
entity_verdict table entity = option_map (verdict table entity.id) (alert_in entity)

-- what the entities of a feed are, in order
abbrev pub verdicts : Table → List Entity → List (Option (Result Situation Fault))
verdicts table entities = map (entity_verdict table) entities

-- the situations that are taken
abbrev pub situations : Table → List Entity → List Situation
situations table entities = given_all (verdicts table entities)

-- how many entities and selectors are passed, those of alerts that are set aside too; a count of 64 bits stays at its
-- last value
abbrev pub passed_of : Table → Option Alert → ℕ
passed_of table None = 1
passed_of table (Some alert) = selectors_passed table alert.selectors

abbrev pub passed_in : Table → Entity → ℕ
passed_in table entity = passed_of table (alert_in entity)

abbrev pub passed_count : Table → List Entity → ℕ
passed_count table entities = min (sum_by (passed_in table) entities) last_count

-- the report on a feed's entities
abbrev pub report_on : Table → List Entity → Report
report_on table entities = record {
  taken = length (situations table entities);
  passed = passed_count table entities;
  aside = aside_all (verdicts table entities);
}

-- the alerts that are taken
abbrev pub alert_given : Table → Entity → Option Alert
alert_given table entity = if is_some (given (entity_verdict table entity)) then alert_in entity else None

abbrev pub alerts : Table → List Entity → List Alert
alerts table entities = filter_map (alert_given table) entities
