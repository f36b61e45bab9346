-- The frame of a delivery of estimated timetables: the way from its root to its journeys (SIRI 2.0, Siri,
-- ServiceDelivery, EstimatedTimetableDelivery, EstimatedJourneyVersionFrame, EstimatedVehicleJourney).
use Rattle.std.specs.Prelude.{Bool, List, [], ◌∷◌, map, codes, Option, Result, Ok, Err, if◌then◌else◌}
use Rattle.std.specs.List.{list_all, flat_map}
use Rattle.gw_base.specs.declared.member.Member.{Member}
use Rattle.gw_base.specs.Chains.{◌>>=◌}
use Rattle.serde_json.specs.Data.{Data}
use Rattle.serde_json.specs.Find.{get}
use Rattle.siri_json.specs.Forms.{is_object}
use Rattle.siri_json.specs.Frame.{deliveries_in, repeated_under, service_in}

-- an object of a delivery or a journey's item, and the members that may say when it was recorded where it doesn't
-- itself, the nearest first
pub record Place : Type 0 where
  pub tree : Data
  pub further : List (Option Data)

-- the deliveries of a service delivery: each may say when its journeys were recorded, and so may the service delivery
abbrev pub delivery_place : Data → Data → Place
delivery_place service tree = record {
  tree = tree;
  further = get (codes "ResponseTimestamp") tree ∷ get (codes "ResponseTimestamp") service ∷ [];
}

abbrev pub places_in : Data → Result (List Place) Member
places_in service = do
  trees ← deliveries_in Member.EstimatedTimetableDelivery service
  Ok (map (delivery_place service) trees)

-- the frames below a delivery: each may say when its journeys were recorded
abbrev pub frame_place : Place → Data → Place
frame_place delivery tree = record { tree = tree; further = get (codes "RecordedAtTime") tree ∷ delivery.further }

abbrev pub frames_below : Place → List Place
frames_below delivery = map (frame_place delivery) (repeated_under Member.EstimatedJourneyVersionFrame delivery.tree)

-- the frames below all deliveries, where each is an object
abbrev pub has_object : Place → Bool
has_object place = is_object place.tree

abbrev pub all_objects : List Place → Result (List Place) Member
all_objects frames = if list_all has_object frames then Ok frames else Err Member.EstimatedJourneyVersionFrame

abbrev pub frames_of : List Place → Result (List Place) Member
frames_of deliveries = all_objects (flat_map frames_below deliveries)

-- the journeys below a frame
abbrev pub item_place : Place → Data → Place
item_place frame tree = record { tree = tree; further = frame.further }

abbrev pub items_below : Place → List Place
items_below frame = map (item_place frame) (repeated_under Member.EstimatedVehicleJourney frame.tree)

-- the frames of a tree, or the first row of the way down that is broken: level by level, over all items of a level
abbrev pub frames_in : Data → Result (List Place) Member
frames_in root = do
  service ← service_in root
  deliveries ← places_in service
  frames_of deliveries

-- the journeys of a delivery's tree in document order, or the member that is wrong
abbrev pub items : Data → Result (List Place) Member
items root = do
  frames ← frames_in root
  Ok (flat_map items_below frames)
