-- What a situation's tree says it affects is read as what the situation refers to.
use Rattle.std.proofs.Common.{◌≡◌, ℕ, ◌-◌, ◌<◌, List, [], ◌∷◌, ◌++◌, length, map, Bool, true, Option, Some, None, Result, Ok, Err, codes, filter, append-nil, append_assoc, if◌then◌else◌, option_map, refl, sym, ap, ◌∙◌, ℤ, arith}
use Rattle.std.specs.List.{AllByRecursion, cons_option, list_all}
use Rattle.std.proofs.lemmas.List.{length-map, map-append}
use Rattle.gw_base.specs.declared.member.Member.{Member}
use Rattle.timetable.specs.Sound.{IsSound}
use Rattle.timetable.specs.Table.{Table}
use Rattle.gw_base.specs.Chains.{◌>>=◌}
use Rattle.gw_base.proofs.Elements.{all_filter, or_none}
use Rattle.journey_model.specs.declared.fault.Fault.{Fault}
use Rattle.journey_model.specs.declared.fault.Fault.TheVariants.{BadField}
use Rattle.journey_model.specs.declared.situation.Ref.{Ref}
use Rattle.journey_model.specs.declared.situation.Ref.TheVariants.{Route, Stop, Journey}
use Rattle.journey_model.specs.declared.situation.Situation.{Situation}
use Rattle.serde_json.specs.Data.{Data}
use Rattle.serde_json.specs.Find.{get}
use Rattle.siri_json.specs.Trees.{array_of, members, object_of}
use Rattle.siri_json.specs.Forms.{is_object}
use Rattle.siri_situations.specs.Affected.{affected, day_in_form, journey_reference, known, line_reference, references, stop_reference, unless_none}
use Rattle.siri_situations.specs.Steps.{gather}
use Rattle.reverse_alerts.specs.Kept.{is_journey, is_route, is_stop}
use Rattle.reverse_alerts.specs.SituationTree.{affects_tree, journeys_member, lines_member, ref_trees, stops_member}
use Rattle.reverse_alerts.proofs.Blocks.{block, blocks, found}
use Rattle.reverse_alerts.proofs.Grouped.{all-filter, by_kinds}
use Rattle.reverse_alerts.proofs.Names.{position-id_of}
use Rattle.reverse_alerts.proofs.ReadForms.{bound, down, none-read, object-read, object_in, objects_in, repeated-read, step-from, step-on}
use Rattle.reverse_alerts.proofs.ReadRefs.{days-said, frames-read, inner_tree, journey_in, journeys-read, line_in, lines-read, said, stop_in, stops-read}
use Rattle.reverse_alerts.proofs.Sayable.{CanSay, IsSayable}

-- ---- the members of Affects

abbrev line_tree : List Data → Data
line_tree trees = object_of ((codes "AffectedLine", array_of trees) ∷ [])

abbrev network_tree : List Data → Data
network_tree trees = object_of ((codes "AffectedNetwork", array_of (line_tree trees ∷ [])) ∷ [])

abbrev stop_tree : List Data → Data
stop_tree trees = object_of ((codes "AffectedStopPoint", array_of trees) ∷ [])

abbrev vehicle_tree : List Data → Data
vehicle_tree trees = object_of ((codes "AffectedVehicleJourney", array_of trees) ∷ [])

abbrev pub if_some : (List Data → Data) → List Data → Option Data
if_some make [] = None
if_some make (tree ∷ trees) = Some (make (tree ∷ trees))

abbrev pub networks_of : List Data → Option Data
networks_of trees = if_some network_tree trees

abbrev pub stop_points_of : List Data → Option Data
stop_points_of trees = if_some stop_tree trees

abbrev pub vehicle_journeys_of : List Data → Option Data
vehicle_journeys_of trees = if_some vehicle_tree trees

abbrev pub affects_parts : List Data → List Data → List Data → List (List ℕ × Option Data)
affects_parts lines stops journeys =
    (codes "Networks", networks_of lines) ∷ (codes "StopPoints", stop_points_of stops) ∷ (codes "VehicleJourneys", vehicle_journeys_of journeys) ∷ []

lines-block : (trees : List Data) → lines_member trees ≡ block (codes "Networks") (networks_of trees)
lines-block [] = refl
lines-block (tree ∷ trees) = refl

stops-block : (trees : List Data) → stops_member trees ≡ block (codes "StopPoints") (stop_points_of trees)
stops-block [] = refl
stops-block (tree ∷ trees) = refl

journeys-block : (trees : List Data) → journeys_member trees ≡ block (codes "VehicleJourneys") (vehicle_journeys_of trees)
journeys-block [] = refl
journeys-block (tree ∷ trees) = refl

regroup : {A : Type 0} (a b c : List A) → a ++ b ++ c ≡ a ++ (b ++ (c ++ []))
regroup a b c = append_assoc a b c ∙ ap (λ rest. a ++ (b ++ rest)) (sym (append-nil c))

parts-by : (lines stops journeys : List Data) → lines_member lines ++ stops_member stops ++ journeys_member journeys ≡ blocks (affects_parts lines stops journeys)
parts-by lines stops journeys =
    let first = lines-block lines in
    let second = stops-block stops in
    let third = journeys-block journeys in
    (λ i. first i ++ second i ++ third i)
    ∙ regroup (block (codes "Networks") (networks_of lines)) (block (codes "StopPoints") (stop_points_of stops)) (block (codes "VehicleJourneys") (vehicle_journeys_of journeys))

pub affects-parts : (table : Table) (refs : List Ref) → affects_tree table refs
    ≡ object_of (blocks (affects_parts (ref_trees table (filter is_route refs)) (ref_trees table (filter is_stop refs)) (ref_trees table (filter is_journey refs))))
affects-parts table refs =
    ap object_of (parts-by (ref_trees table (filter is_route refs)) (ref_trees table (filter is_stop refs)) (ref_trees table (filter is_journey refs)))

-- what each name finds
networks-found : (lines stops journeys : List Data) → get (codes "Networks") (object_of (blocks (affects_parts lines stops journeys))) ≡ networks_of lines
networks-found lines stops journeys = found (codes "Networks") (affects_parts lines stops journeys) ∙ or_none (networks_of lines)

stops-found : (lines stops journeys : List Data) → get (codes "StopPoints") (object_of (blocks (affects_parts lines stops journeys))) ≡ stop_points_of stops
stops-found lines stops journeys = found (codes "StopPoints") (affects_parts lines stops journeys) ∙ or_none (stop_points_of stops)

journeys-found : (lines stops journeys : List Data) → get (codes "VehicleJourneys") (object_of (blocks (affects_parts lines stops journeys))) ≡ vehicle_journeys_of journeys
journeys-found lines stops journeys = found (codes "VehicleJourneys") (affects_parts lines stops journeys) ∙ or_none (vehicle_journeys_of journeys)

-- ---- the ways down

abbrev pub lines_way : List (Data → Result (List Data) Fault)
lines_way = object_in Member.Networks ∷ objects_in Member.AffectedNetwork ∷ objects_in Member.AffectedLine ∷ []

abbrev pub stops_way : List (Data → Result (List Data) Fault)
stops_way = object_in Member.StopPoints ∷ objects_in Member.AffectedStopPoint ∷ []

abbrev pub journeys_way : List (Data → Result (List Data) Fault)
journeys_way = object_in Member.VehicleJourneys ∷ objects_in Member.AffectedVehicleJourney ∷ object_in Member.FramedVehicleJourneyRef ∷ []

way-of-lines : (affects : Data) (lines : List Data) → get (codes "Networks") affects ≡ networks_of lines → list_all is_object lines ≡ true
    → down lines_way (affects ∷ []) ≡ Ok lines
way-of-lines affects [] e all =
    step-from (object_in Member.Networks) (objects_in Member.AffectedNetwork ∷ objects_in Member.AffectedLine ∷ []) affects [] (none-read Member.Networks affects e)
way-of-lines affects (first ∷ others) e all =
    let lines = first ∷ others in
    step-from (object_in Member.Networks) (objects_in Member.AffectedNetwork ∷ objects_in Member.AffectedLine ∷ []) affects (network_tree lines ∷ [])
    (object-read Member.Networks affects (members ((codes "AffectedNetwork", array_of (line_tree lines ∷ [])) ∷ [])) e)
    ∙ step-from (objects_in Member.AffectedNetwork) (objects_in Member.AffectedLine ∷ []) (network_tree lines) (line_tree lines ∷ [])
    (repeated-read Member.AffectedNetwork (network_tree lines) (line_tree lines ∷ []) refl refl)
    ∙ step-from (objects_in Member.AffectedLine) [] (line_tree lines) lines (repeated-read Member.AffectedLine (line_tree lines) lines refl all)

way-of-stops : (affects : Data) (stops : List Data) → get (codes "StopPoints") affects ≡ stop_points_of stops → list_all is_object stops ≡ true
    → down stops_way (affects ∷ []) ≡ Ok stops
way-of-stops affects [] e all = step-from (object_in Member.StopPoints) (objects_in Member.AffectedStopPoint ∷ []) affects [] (none-read Member.StopPoints affects e)
way-of-stops affects (first ∷ others) e all =
    let stops = first ∷ others in
    step-from (object_in Member.StopPoints) (objects_in Member.AffectedStopPoint ∷ []) affects (stop_tree stops ∷ [])
    (object-read Member.StopPoints affects (members ((codes "AffectedStopPoint", array_of stops) ∷ [])) e)
    ∙ step-from (objects_in Member.AffectedStopPoint) [] (stop_tree stops) stops (repeated-read Member.AffectedStopPoint (stop_tree stops) stops refl all)

way-of-journeys : (affects : Data) (journeys inner : List Data) → get (codes "VehicleJourneys") affects ≡ vehicle_journeys_of journeys
    → list_all is_object journeys ≡ true → down (object_in Member.FramedVehicleJourneyRef ∷ []) journeys ≡ Ok inner
    → down journeys_way (affects ∷ []) ≡ Ok inner
way-of-journeys affects [] inner e all last =
    step-from (object_in Member.VehicleJourneys) (objects_in Member.AffectedVehicleJourney ∷ object_in Member.FramedVehicleJourneyRef ∷ []) affects []
    (none-read Member.VehicleJourneys affects e)
    ∙ last
way-of-journeys affects (first ∷ others) inner e all last =
    let journeys = first ∷ others in
    step-from (object_in Member.VehicleJourneys) (objects_in Member.AffectedVehicleJourney ∷ object_in Member.FramedVehicleJourneyRef ∷ []) affects
    (vehicle_tree journeys ∷ []) (object-read Member.VehicleJourneys affects (members ((codes "AffectedVehicleJourney", array_of journeys) ∷ [])) e)
    ∙ step-from (objects_in Member.AffectedVehicleJourney) (object_in Member.FramedVehicleJourneyRef ∷ []) (vehicle_tree journeys) journeys
    (repeated-read Member.AffectedVehicleJourney (vehicle_tree journeys) journeys refl all)
    ∙ last

-- ---- the references of each kind, and all of them

abbrev pub lines_below : {R : Type 0} → (List ℕ → R) → List Data → Result (List R) Fault
lines_below line affects = down lines_way affects >>= λ trees. gather (line_in line) trees

abbrev pub stops_below : {R : Type 0} → (List ℕ → R) → List Data → Result (List R) Fault
stops_below stop affects = down stops_way affects >>= λ trees. gather (stop_in stop) trees

abbrev pub journeys_in : {R : Type 0} → (ℤ → List ℕ → R) → List Data → Result (List R) Fault
journeys_in journey trees = if list_all day_in_form trees then gather (journey_in journey) trees else Err (BadField Member.DataFrameRef)

abbrev pub journeys_below : {R : Type 0} → (ℤ → List ℕ → R) → List Data → Result (List R) Fault
journeys_below journey affects = down journeys_way affects >>= λ trees. journeys_in journey trees

abbrev pub all_below : {R : Type 0} → (List ℕ → R) → (List ℕ → R) → (ℤ → List ℕ → R) → List Data → Result (List R) Fault
all_below line stop journey affects =
    lines_below line affects >>= λ lines. (stops_below stop affects >>= λ stops. (journeys_below journey affects >>= λ journeys. Ok (lines ++ stops ++ journeys)))

refs-are-objects : (table : Table) (refs : List Ref) → list_all is_object (ref_trees table refs) ≡ true
refs-are-objects table [] = refl
refs-are-objects table (Route route ∷ refs) = refs-are-objects table refs
refs-are-objects table (Stop stop ∷ refs) = refs-are-objects table refs
refs-are-objects table (Journey trip day ∷ refs) = refs-are-objects table refs

all-below-by : {R : Type 0} (line stop : List ℕ → R) (journey : ℤ → List ℕ → R) (affects : List Data) (lines stops journeys : List R)
    → lines_below line affects ≡ Ok lines → stops_below stop affects ≡ Ok stops → journeys_below journey affects ≡ Ok journeys
    → all_below line stop journey affects ≡ Ok (lines ++ stops ++ journeys)
all-below-by line stop journey affects lines stops journeys first second third =
    bound (lines_below line affects) lines (λ a. stops_below stop affects >>= λ b. (journeys_below journey affects >>= λ c. Ok (a ++ b ++ c))) first
    ∙ bound (stops_below stop affects) stops (λ b. journeys_below journey affects >>= λ c. Ok (lines ++ b ++ c)) second
    ∙ bound (journeys_below journey affects) journeys (λ c. Ok (lines ++ stops ++ c)) third

map-three : {A B : Type 0} (f : A → B) (a b c : List A) → map f a ++ map f b ++ map f c ≡ map f (a ++ b ++ c)
map-three f a b c = ap (λ front. front ++ map f c) (sym (map-append f a b)) ∙ sym (map-append f (a ++ b) c)

journeys-in-form : {R : Type 0} (journey : ℤ → List ℕ → R) (trees : List Data) (all : List R) → list_all day_in_form trees ≡ true
    → gather (journey_in journey) trees ≡ Ok all → journeys_in journey trees ≡ Ok all
journeys-in-form journey trees all days e =
    ap (λ (b : Bool). if b then gather (journey_in journey) trees else Err (BadField Member.DataFrameRef)) days ∙ e

-- those below Affects
below-read : {R : Type 0} (line stop : List ℕ → R) (journey : ℤ → List ℕ → R) (table : Table) (affects : Data) (r s j : List Ref) → IsSound table
    → AllByRecursion (CanSay table) r → AllByRecursion (CanSay table) s → AllByRecursion (CanSay table) j
    → list_all is_route r ≡ true → list_all is_stop s ≡ true → list_all is_journey j ≡ true
    → get (codes "Networks") affects ≡ networks_of (ref_trees table r) → get (codes "StopPoints") affects ≡ stop_points_of (ref_trees table s)
    → get (codes "VehicleJourneys") affects ≡ vehicle_journeys_of (ref_trees table j)
    → all_below line stop journey (affects ∷ []) ≡ Ok (map (said line stop journey table) (r ++ s ++ j))
below-read line stop journey table affects r s j sound of_r of_s of_j routes stops journeys at_r at_s at_j =
    let f = said line stop journey table in
    let inner = map (inner_tree table) j in
    let frames = step-on (object_in Member.FramedVehicleJourneyRef) [] (ref_trees table j) inner (frames-read table j journeys) in
    all-below-by line stop journey (affects ∷ []) (map f r) (map f s) (map f j)
    (bound (down lines_way (affects ∷ [])) (ref_trees table r) (gather (line_in line)) (way-of-lines affects (ref_trees table r) at_r (refs-are-objects table r))
    ∙ lines-read line stop journey table r sound of_r routes)
    (bound (down stops_way (affects ∷ [])) (ref_trees table s) (gather (stop_in stop)) (way-of-stops affects (ref_trees table s) at_s (refs-are-objects table s))
    ∙ stops-read line stop journey table s sound of_s stops)
    (bound (down journeys_way (affects ∷ [])) inner (journeys_in journey)
    (way-of-journeys affects (ref_trees table j) inner at_j (refs-are-objects table j) frames)
    ∙ journeys-in-form journey inner (map f j) (days-said table j of_j journeys) (journeys-read line stop journey table j sound of_j journeys))
    ∙ ap Ok (map-three f r s j)

affects-read : {R : Type 0} (line stop : List ℕ → R) (journey : ℤ → List ℕ → R) (table : Table) (refs : List Ref) → IsSound table
    → AllByRecursion (CanSay table) refs → all_below line stop journey (affects_tree table refs ∷ []) ≡ Ok (map (said line stop journey table) (by_kinds refs))
affects-read line stop journey table refs sound h =
    let r = filter is_route refs in
    let s = filter is_stop refs in
    let j = filter is_journey refs in
    let lines = ref_trees table r in
    let stops = ref_trees table s in
    let journeys = ref_trees table j in
    ap (λ affects. all_below line stop journey (affects ∷ [])) (affects-parts table refs)
    ∙ below-read line stop journey table (object_of (blocks (affects_parts lines stops journeys))) r s j sound (all_filter (CanSay table) is_route refs h)
    (all_filter (CanSay table) is_stop refs h) (all_filter (CanSay table) is_journey refs h) (all-filter is_route refs) (all-filter is_stop refs)
    (all-filter is_journey refs) (networks-found lines stops journeys) (stops-found lines stops journeys) (journeys-found lines stops journeys)

-- the references of a situation are these
pub references-are : (table : Table) (tree : Data)
    → references table tree ≡ (object_in Member.Affects tree >>= λ affects. all_below (line_reference table) (stop_reference table) (journey_reference table) affects)
references-are table tree = refl

pub references-read : (table : Table) (tree : Data) (one : Situation) → IsSound table → IsSayable table one
    → get (codes "Affects") tree ≡ Some (affects_tree table one.refs)
    → references table tree ≡ Ok (map (said (line_reference table) (stop_reference table) (journey_reference table) table) one.refs)
references-read table tree one sound h e =
    let r = ref_trees table (filter is_route one.refs) in
    let s = ref_trees table (filter is_stop one.refs) in
    let j = ref_trees table (filter is_journey one.refs) in
    references-are table tree
    ∙ bound (object_in Member.Affects tree) (affects_tree table one.refs ∷ []) (all_below (line_reference table) (stop_reference table) (journey_reference table))
    (object-read Member.Affects tree (members (lines_member r ++ stops_member s ++ journeys_member j)) e)
    ∙ affects-read (line_reference table) (stop_reference table) (journey_reference table) table one.refs sound h.refs
    ∙ ap (λ refs. Ok (map (said (line_reference table) (stop_reference table) (journey_reference table) table) refs)) h.kinds

-- ---- all of them are known

known-one : (table : Table) (ref : Ref) → IsSound table → CanSay table ref
    → (said (line_reference table) (stop_reference table) (journey_reference table) table ref).known ≡ Some ref
known-one table (Route route) sound h = ap (option_map (λ n. Route (record { 0 = n }))) (position-id_of table.routes route.0 sound.routes h)
known-one table (Stop stop) sound h = ap (option_map (λ n. Stop (record { 0 = n }))) (position-id_of table.stops stop.0 sound.stops h)
known-one table (Journey trip on) sound h = ap (option_map (λ n. Journey (record { 0 = n }) on)) (position-id_of table.trips trip.0 sound.trips h.0)

known-said : (table : Table) (refs : List Ref) → IsSound table → AllByRecursion (CanSay table) refs
    → known (map (said (line_reference table) (stop_reference table) (journey_reference table) table) refs) ≡ refs
known-said table [] sound h = refl
known-said table (ref ∷ refs) sound h =
    ap (λ one. cons_option one (known (map (said (line_reference table) (stop_reference table) (journey_reference table) table) refs))) (known-one table ref sound h.0)
    ∙ ap (λ rest. ref ∷ rest) (known-said table refs sound h.1)

none-unknown : (a b : ℕ) → a ≡ b → a - b ≡ 0
none-unknown a b e = omega arith

pub affected-read : (table : Table) (refs : List Ref) → IsSound table → AllByRecursion (CanSay table) refs → 0 < length refs
    → affected (map (said (line_reference table) (stop_reference table) (journey_reference table) table) refs) ≡ Ok (refs, 0)
affected-read table [] sound h some = absurd (omega arith)
affected-read table (ref ∷ refs) sound h some =
    let f = said (line_reference table) (stop_reference table) (journey_reference table) table in
    let count = length (map f (ref ∷ refs)) in
    ap (λ all. unless_none (f ref).member (count - length all) all) (known-said table (ref ∷ refs) sound h)
    ∙ ap (λ unknown. Ok (ref ∷ refs, unknown)) (none-unknown count (length (ref ∷ refs)) (length-map (ref ∷ refs) f))
