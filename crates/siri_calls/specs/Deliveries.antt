-- What the answer of reading a delivery of estimated timetables says.
use Rattle.std.specs.Prelude.{ℕ, List, Result, ⊤}
use Rattle.std.specs.List.{AllByRecursion}
use Rattle.journey_model.specs.Records.{Recorded, recorded}
use Rattle.journey_model.specs.Schedules.{Schedule}
use Rattle.journey_model.specs.declared.fault.Fault.{Fault}
use Rattle.journey_model.specs.declared.readings.JourneyRecord.{JourneyRecord}
use Rattle.siri_calls.specs.Servable.{IsServable}
use Rattle.siri_calls.specs.Verdicts.{verdicts}
use Rattle.siri_json.specs.Deliveries.{HasVerdicts, Reads, tree_of}
use Rattle.siri_json.specs.declared.delivery.Delivery.{Delivery}
use Rattle.siri_json.specs.declared.delivery.DeliveryFault.{DeliveryFault}
use Rattle.siri_json.specs.declared.delivery.Item.{Item}
use Rattle.siri_json.specs.declared.delivery.Item.TheVariants.{Taken, Aside}

-- the answer of `read_delivery` for a body
abbrev pub ReadsBody : Schedule → List ℕ → Result (Delivery JourneyRecord) DeliveryFault → Type 0
ReadsBody schedule body answer = Reads (HasVerdicts recorded) (verdicts schedule) (tree_of body) answer

-- each record that is taken can be served
abbrev pub CanServe : Schedule → Item JourneyRecord → Type 0
CanServe schedule (Taken one) = IsServable schedule one
CanServe schedule (Aside fault) = ⊤

abbrev pub AreServable : Schedule → List (Item JourneyRecord) → Type 0
AreServable schedule items = AllByRecursion (CanServe schedule) items

-- a delivery that took journeys with these verdicts
pub record HasTaken (schedule : Schedule) (delivery : Delivery JourneyRecord)
    (all : List (Result (Recorded × ℕ) Fault)) : Type 0 where
  pub verdicts : HasVerdicts recorded delivery all
  pub servable : AreServable schedule delivery.items
