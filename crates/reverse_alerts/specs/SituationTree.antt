-- The delivery that says situations (SIRI 2.0, SituationExchangeDelivery, PtSituationElement; in JSON after SIRI
-- Lite): its tree and its text. The members of each object come in the order of their names' bytes, each only where
-- there is something to say.
use Rattle.std.specs.Prelude.{ℕ, ℤ, pos, List, [], ◌∷◌, ◌++◌, map, codes, Option, Some, None, if◌then◌else◌}
use Rattle.std.specs.List.{filter}
use Rattle.std.specs.Ordering.{int_eq}
use Rattle.gw_base.specs.Enums.{additional_service, detour, modified_service, no_service, other_cause, significant_delays, technical_problem, weather}
use Rattle.serde_json.specs.Data.{Data, string}
use Rattle.serde_json.specs.Written.{compact_text}
use Rattle.service_day.specs.DayTexts.{dashed_text}
use Rattle.timetable.specs.Table.{Table}
use Rattle.journey_model.specs.Ids.{id_of}
use Rattle.journey_model.specs.declared.situation.Ref.{Ref}
use Rattle.journey_model.specs.declared.situation.Ref.TheVariants.{Route, Stop, Journey}
use Rattle.journey_model.specs.declared.situation.Situation.{Situation}
use Rattle.journey_model.specs.declared.situation.ValidPeriod.{ValidPeriod}
use Rattle.siri_json.specs.Trees.{array_of, moment_tree, object_of}
use Rattle.reverse_alerts.specs.Kept.{is_journey, is_route, is_stop}

-- named members
abbrev pub Named : Type 0
Named = List (List ℕ × Data)

-- a member of a text, where there is one
abbrev pub text_member : List ℕ → Option (List ℕ) → Named
text_member name None = []
text_member name (Some text) = (name, string text) ∷ []

-- a member of trees, where there are any
abbrev pub if_any : List Data → Named → Named
if_any [] named = []
if_any (tree ∷ trees) named = named

-- what a situation refers to: a line, a stop, and a journey by its trip and its service day
abbrev pub journey_members : ℤ → List ℕ → Named
journey_members day id =
    (codes "DataFrameRef", string (dashed_text day)) ∷ (codes "DatedVehicleJourneyRef", string id) ∷ []

abbrev pub ref_tree : Table → Ref → Data
ref_tree table (Route route) = object_of ((codes "LineRef", string (id_of table.routes route.0)) ∷ [])
ref_tree table (Stop stop) = object_of ((codes "StopPointRef", string (id_of table.stops stop.0)) ∷ [])
ref_tree table (Journey trip day) =
    object_of ((codes "FramedVehicleJourneyRef", object_of (journey_members day (id_of table.trips trip.0))) ∷ [])

abbrev pub ref_trees : Table → List Ref → List Data
ref_trees table refs = map (ref_tree table) refs

-- all lines are in one network
abbrev pub lines_member : List Data → Named
lines_member trees = if_any trees ((
  codes "Networks",
  object_of (
      (codes "AffectedNetwork", array_of (object_of ((codes "AffectedLine", array_of trees) ∷ []) ∷ [])) ∷ []),
) ∷ [])

abbrev pub stops_member : List Data → Named
stops_member trees =
    if_any trees ((codes "StopPoints", object_of ((codes "AffectedStopPoint", array_of trees) ∷ [])) ∷ [])

abbrev pub journeys_member : List Data → Named
journeys_member trees =
    if_any trees ((codes "VehicleJourneys", object_of ((codes "AffectedVehicleJourney", array_of trees) ∷ [])) ∷ [])

abbrev pub affects_tree : Table → List Ref → Data
affects_tree table refs = object_of (
    lines_member (ref_trees table (filter is_route refs))
    ++ stops_member (ref_trees table (filter is_stop refs))
    ++ journeys_member (ref_trees table (filter is_journey refs)))

-- the word of an effect (Condition), which an unknown one lacks
abbrev pub condition_of : ℤ → Option (List ℕ)
condition_of effect =
    if int_eq effect no_service then Some (codes "noService") else
    (if int_eq effect significant_delays then Some (codes "delayed") else
    (if int_eq effect detour then Some (codes "diverted") else
    (if int_eq effect additional_service then Some (codes "additionalService") else
    (if int_eq effect modified_service then Some (codes "altered") else None))))

abbrev pub consequences_of : Option (List ℕ) → Named
consequences_of None = []
consequences_of (Some condition) = (
  codes "Consequences",
  object_of (
      (codes "Consequence", array_of (object_of ((codes "Condition", string condition) ∷ []) ∷ [])) ∷ []),
) ∷ []

-- the member that is the reason of a cause, which an unknown one lacks
abbrev pub reason_of : ℤ → Option (List ℕ)
reason_of cause =
    if int_eq cause technical_problem then Some (codes "EquipmentReason") else
    (if int_eq cause weather then Some (codes "EnvironmentReason") else
    (if int_eq cause other_cause then Some (codes "MiscellaneousReason") else None))

abbrev pub reason_member : Option (List ℕ) → Named
reason_member None = []
reason_member (Some name) = (name, string (codes "unknown")) ∷ []

-- when it holds
abbrev pub bound_member : List ℕ → Option ℕ → Named
bound_member name None = []
bound_member name (Some secs) = (name, moment_tree (pos secs)) ∷ []

abbrev pub period_tree : ValidPeriod → Data
period_tree period =
    object_of (bound_member (codes "EndTime") period.end ++ bound_member (codes "StartTime") period.start)

abbrev pub periods_member : List Data → Named
periods_member trees = if_any trees ((codes "ValidityPeriod", array_of trees) ∷ [])

-- a situation, which is told at that moment
abbrev pub situation_tree : Table → ℤ → Situation → Data
situation_tree table moment one = object_of (
    (codes "Affects", affects_tree table one.refs)
    ∷ consequences_of (condition_of one.effect)
    ++ (codes "CreationTime", moment_tree moment)
    ∷ text_member (codes "Description") one.description
    ++ reason_member (reason_of one.cause)
    ++ (codes "SituationNumber", string one.number)
    ∷ text_member (codes "Summary") one.summary
    ++ periods_member (map period_tree one.periods))

-- the delivery with the situations, and the service delivery with it
abbrev pub elements_tree : Table → ℤ → List Situation → Data
elements_tree table moment all =
    object_of ((codes "PtSituationElement", array_of (map (situation_tree table moment) all)) ∷ [])

abbrev pub exchange_tree : Table → ℤ → List Situation → Data
exchange_tree table moment all = object_of (
    (codes "ResponseTimestamp", moment_tree moment)
    ∷ (codes "Situations", elements_tree table moment all)
    ∷ (codes "version", string (codes "2.0"))
    ∷ [])

abbrev pub service_tree : Table → ℤ → List Situation → Data
service_tree table moment all = object_of (
    (codes "ResponseTimestamp", moment_tree moment)
    ∷ (codes "SituationExchangeDelivery", array_of (exchange_tree table moment all ∷ []))
    ∷ [])

-- the delivery that says these situations at that moment, and its text without blanks
abbrev pub delivery_tree : Table → ℤ → List Situation → Data
delivery_tree table moment all = object_of (
    (codes "Siri", object_of ((codes "ServiceDelivery", service_tree table moment all) ∷ []))
    ∷ [])

abbrev pub delivery_text : Table → ℤ → List Situation → List ℕ
delivery_text table moment all = compact_text (delivery_tree table moment all)
