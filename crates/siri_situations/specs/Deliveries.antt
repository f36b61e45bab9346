-- What the answer of reading a delivery of situations says.
use Rattle.std.specs.Prelude.{ℕ, List, Result, ⊤}
use Rattle.std.specs.List.{AllByRecursion}
use Rattle.journey_model.specs.Schedules.{Schedule}
use Rattle.journey_model.specs.Situations.{AreKnown}
use Rattle.journey_model.specs.declared.fault.Fault.{Fault}
use Rattle.journey_model.specs.declared.situation.Situation.{Situation}
use Rattle.siri_json.specs.Deliveries.{HasVerdicts, Reads, tree_of}
use Rattle.siri_json.specs.declared.delivery.Delivery.{Delivery}
use Rattle.siri_json.specs.declared.delivery.DeliveryFault.{DeliveryFault}
use Rattle.siri_json.specs.declared.delivery.Item.{Item}
use Rattle.siri_json.specs.declared.delivery.Item.TheVariants.{Taken, Aside}
use Rattle.siri_situations.specs.Situations.{verdicts}
use Rattle.timetable.specs.Table.{Table}

-- a situation is seen as it is
abbrev pub same : Situation → Situation
same one = one

-- the answer of `read_situations` for a body
abbrev pub ReadsSituations : Schedule → List ℕ → Result (Delivery Situation) DeliveryFault → Type 0
ReadsSituations schedule body answer = Reads (HasVerdicts same) (verdicts schedule) (tree_of body) answer

-- each situation that is taken refers to what is there
abbrev pub RefersToKnown : Table → Item Situation → Type 0
RefersToKnown table (Taken one) = AreKnown table one.refs
RefersToKnown table (Aside fault) = ⊤

abbrev pub ReferToKnown : Table → List (Item Situation) → Type 0
ReferToKnown table items = AllByRecursion (RefersToKnown table) items

-- a delivery that took situations with these verdicts
pub record HasTaken (schedule : Schedule) (delivery : Delivery Situation)
    (all : List (Result (Situation × ℕ) Fault)) : Type 0 where
  pub verdicts : HasVerdicts same delivery all
  pub known : ReferToKnown schedule.table delivery.items
