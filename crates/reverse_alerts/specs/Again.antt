-- What situations that were written say when they are read again, and what a situation is that went there and back.
use Rattle.std.specs.Prelude.{◌≡◌, ℕ, List, map, Option, Some, None, Result, Ok, if◌then◌else◌}
use Rattle.std.specs.List.{filter_map}
use Rattle.journey_model.specs.Schedules.{Schedule}
use Rattle.journey_model.specs.declared.fault.Fault.{Fault}
use Rattle.journey_model.specs.declared.situation.Situation.{Situation}
use Rattle.serde_json.specs.Data.{Data}
use Rattle.siri_json.specs.Deliveries.{tree_of}
use Rattle.siri_json.specs.declared.delivery.Item.{Item}
use Rattle.siri_json.specs.declared.delivery.Item.TheVariants.{Taken, Aside}
use Rattle.siri_situations.specs.Situations.{verdicts}
use Rattle.timetable.specs.Table.{Table}
use Rattle.alert_map.specs.Alerts.{alert, alert_message}
use Rattle.reverse_alerts.specs.Taken.{entity_verdict}

-- such a situation is taken, with no reference passed over
abbrev pub taken_again : Situation → Result (Situation × ℕ) Fault
taken_again one = Ok (one, 0)

-- the text is JSON, and its items are just these situations, in order: each is taken, and nothing is set aside
pub record SaysAgain (schedule : Schedule) (all : List Situation) (text : List ℕ) : Type 0 where
  pub tree : Data
  pub is_tree : tree_of text ≡ Some tree
  pub again : verdicts schedule tree ≡ Ok (map taken_again all)

-- the entity with which a situation is served is taken as a situation that has an equal alert
pub record ComesBack (table : Table) (one : Situation) : Type 0 where
  pub back : Situation
  pub is_taken : entity_verdict table (alert_message table one) ≡ Some (Ok back)
  pub same : alert table back ≡ alert table one

-- the situations of a delivery that are served, in order: those that were taken and aren't closed
abbrev pub served_in : Item Situation → Option Situation
served_in (Taken one) = if one.served then Some one else None
served_in (Aside fault) = None

abbrev pub served : List (Item Situation) → List Situation
served items = filter_map served_in items

-- the text is read as situations whose alerts are those of these, in order
pub record SaysAlertsOf (schedule : Schedule) (all : List Situation) (text : List ℕ) : Type 0 where
  pub back : List Situation
  pub again : SaysAgain schedule back text
  pub same : map (alert schedule.table) back ≡ map (alert schedule.table) all
