-- The references that the trees of a kind say are read as they are. What a reference is made of is a parameter.
use Rattle.std.proofs.Common.{◌≡◌, ℕ, ◌<◌, List, [], ◌∷◌, length, map, true, is_ok, option_to_list, Some, Result, Ok, codes, refl, ap, ◌∙◌, ℤ, arith}
use Rattle.std.specs.List.{AllByRecursion, list_all}
use Rattle.std.proofs.lemmas.Bool.{and_from}
use Rattle.gw_base.specs.Member.{member_name}
use Rattle.gw_base.specs.declared.member.Member.{Member}
use Rattle.service_day.specs.Days.{IsDay}
use Rattle.service_day.specs.DayTexts.{dashed_text}
use Rattle.service_day.proofs.MomentTextLemmas.{day_of-dashed_text, some-dashed_text}
use Rattle.timetable.specs.Sound.{IsSound}
use Rattle.timetable.specs.Table.{Table}
use Rattle.gw_base.specs.Chains.{◌>>=◌}
use Rattle.journey_model.specs.Ids.{id_of}
use Rattle.journey_model.specs.declared.fault.Fault.{Fault}
use Rattle.journey_model.specs.declared.situation.Ref.{Ref}
use Rattle.journey_model.specs.declared.situation.Ref.TheVariants.{Route, Stop, Journey}
use Rattle.serde_json.specs.Data.{Data, null, string}
use Rattle.serde_json.specs.Find.{get}
use Rattle.siri_json.specs.Trees.{members, object_of}
use Rattle.siri_json.specs.Fields.{optional_member, required_member}
use Rattle.siri_json.specs.Forms.{day, text}
use Rattle.siri_json.proofs.FormLemmas.{filled-some}
use Rattle.siri_situations.specs.Affected.{day_in_form}
use Rattle.siri_situations.specs.Steps.{gather}
use Rattle.reverse_alerts.specs.Kept.{is_journey, is_route, is_stop}
use Rattle.reverse_alerts.specs.SituationTree.{journey_members, ref_tree, ref_trees}
use Rattle.reverse_alerts.proofs.Names.{some-id_of}
use Rattle.reverse_alerts.proofs.ReadForms.{bound, gather-more, object-read, object_in, text-if-any-read, text-read}
use Rattle.reverse_alerts.proofs.Sayable.{CanSay, is_filled}

-- the references that an object of each kind holds
abbrev pub line_in : {R : Type 0} → (List ℕ → R) → Data → Result (List R) Fault
line_in make tree = optional_member text Member.LineRef tree >>= λ id. Ok (map make (option_to_list id))

abbrev pub stop_in : {R : Type 0} → (List ℕ → R) → Data → Result (List R) Fault
stop_in make tree = optional_member text Member.StopPointRef tree >>= λ id. Ok (map make (option_to_list id))

abbrev pub journey_in : {R : Type 0} → (ℤ → List ℕ → R) → Data → Result (List R) Fault
journey_in make tree =
    required_member day Member.DataFrameRef tree >>= λ on. (required_member text Member.DatedVehicleJourneyRef tree >>= λ id. Ok (make on id ∷ []))

-- what is read of what is referred to
abbrev pub said : {R : Type 0} → (List ℕ → R) → (List ℕ → R) → (ℤ → List ℕ → R) → Table → Ref → R
said line stop journey table (Route route) = line (id_of table.routes route.0)
said line stop journey table (Stop stop_no) = stop (id_of table.stops stop_no.0)
said line stop journey table (Journey trip on) = journey on (id_of table.trips trip.0)

filled-id : (id : List ℕ) → 0 < length id → is_filled (Some id) ≡ true
filled-id [] h = absurd (omega arith)
filled-id (byte ∷ bytes) h = refl

-- ---- one object

line-read : {R : Type 0} (make : List ℕ → R) (id : List ℕ) → 0 < length id → line_in make (object_of ((codes "LineRef", string id) ∷ [])) ≡ Ok (make id ∷ [])
line-read make id some =
    let tree = object_of ((codes "LineRef", string id) ∷ []) in
    bound (optional_member text Member.LineRef tree) (Some id) (λ found. Ok (map make (option_to_list found)))
    (text-if-any-read Member.LineRef tree (Some id) refl (filled-id id some))

stop-read : {R : Type 0} (make : List ℕ → R) (id : List ℕ) → 0 < length id → stop_in make (object_of ((codes "StopPointRef", string id) ∷ [])) ≡ Ok (make id ∷ [])
stop-read make id some =
    let tree = object_of ((codes "StopPointRef", string id) ∷ []) in
    bound (optional_member text Member.StopPointRef tree) (Some id) (λ found. Ok (map make (option_to_list found)))
    (text-if-any-read Member.StopPointRef tree (Some id) refl (filled-id id some))

day-by : (member : Member) (tree : Data) (on : ℤ) → IsDay on → get (member_name member) tree ≡ Some (string (dashed_text on)) → required_member day member tree ≡ Ok on
day-by member tree on h e = rw (e, filled-some (dashed_text on) (some-dashed_text on), day_of-dashed_text on h) refl

pub day-read : (on : ℤ) (id : List ℕ) → IsDay on → required_member day Member.DataFrameRef (object_of (journey_members on id)) ≡ Ok on
day-read on id h = day-by Member.DataFrameRef (object_of (journey_members on id)) on h refl

journey-read : {R : Type 0} (make : ℤ → List ℕ → R) (on : ℤ) (id : List ℕ) → IsDay on → 0 < length id
    → journey_in make (object_of (journey_members on id)) ≡ Ok (make on id ∷ [])
journey-read make on id h some =
    let tree = object_of (journey_members on id) in
    bound (required_member day Member.DataFrameRef tree) on (λ day. required_member text Member.DatedVehicleJourneyRef tree >>= λ found. Ok (make day found ∷ []))
    (day-read on id h)
    ∙ bound (required_member text Member.DatedVehicleJourneyRef tree) id (λ found. Ok (make on found ∷ []))
    (text-read Member.DatedVehicleJourneyRef tree id refl some)

-- what stands in the frame of a journey
abbrev pub inner_tree : Table → Ref → Data
inner_tree table (Route route) = null
inner_tree table (Stop stop) = null
inner_tree table (Journey trip on) = object_of (journey_members on (id_of table.trips trip.0))

-- ---- all of a kind

pub lines-read : {R : Type 0} (line stop : List ℕ → R) (journey : ℤ → List ℕ → R) (table : Table) (refs : List Ref) → IsSound table
    → AllByRecursion (CanSay table) refs → list_all is_route refs ≡ true → gather (line_in line) (ref_trees table refs) ≡ Ok (map (said line stop journey table) refs)
lines-read line stop journey table [] sound h kind = refl
lines-read line stop journey table (Route route ∷ refs) sound h kind =
    gather-more (line_in line) (ref_tree table (Route route)) (ref_trees table refs) (line (id_of table.routes route.0) ∷ []) (map (said line stop journey table) refs)
    (line-read line (id_of table.routes route.0) (some-id_of table.routes route.0 sound.routes h.0)) (lines-read line stop journey table refs sound h.1 kind)
lines-read line stop journey table (Stop stop_no ∷ refs) sound h kind = cc
lines-read line stop journey table (Journey trip on ∷ refs) sound h kind = cc

pub stops-read : {R : Type 0} (line stop : List ℕ → R) (journey : ℤ → List ℕ → R) (table : Table) (refs : List Ref) → IsSound table
    → AllByRecursion (CanSay table) refs → list_all is_stop refs ≡ true → gather (stop_in stop) (ref_trees table refs) ≡ Ok (map (said line stop journey table) refs)
stops-read line stop journey table [] sound h kind = refl
stops-read line stop journey table (Route route ∷ refs) sound h kind = cc
stops-read line stop journey table (Stop stop_no ∷ refs) sound h kind =
    gather-more (stop_in stop) (ref_tree table (Stop stop_no)) (ref_trees table refs) (stop (id_of table.stops stop_no.0) ∷ []) (map (said line stop journey table) refs)
    (stop-read stop (id_of table.stops stop_no.0) (some-id_of table.stops stop_no.0 sound.stops h.0)) (stops-read line stop journey table refs sound h.1 kind)
stops-read line stop journey table (Journey trip on ∷ refs) sound h kind = cc

pub journeys-read : {R : Type 0} (line stop : List ℕ → R) (journey : ℤ → List ℕ → R) (table : Table) (refs : List Ref) → IsSound table
    → AllByRecursion (CanSay table) refs → list_all is_journey refs ≡ true
    → gather (journey_in journey) (map (inner_tree table) refs) ≡ Ok (map (said line stop journey table) refs)
journeys-read line stop journey table [] sound h kind = refl
journeys-read line stop journey table (Route route ∷ refs) sound h kind = cc
journeys-read line stop journey table (Stop stop_no ∷ refs) sound h kind = cc
journeys-read line stop journey table (Journey trip on ∷ refs) sound h kind =
    gather-more (journey_in journey) (inner_tree table (Journey trip on)) (map (inner_tree table) refs) (journey on (id_of table.trips trip.0) ∷ [])
    (map (said line stop journey table) refs)
    (journey-read journey on (id_of table.trips trip.0) h.0.1 (some-id_of table.trips trip.0 sound.trips h.0.0))
    (journeys-read line stop journey table refs sound h.1 kind)

-- the days of all journeys are in form
pub days-said : (table : Table) (refs : List Ref) → AllByRecursion (CanSay table) refs → list_all is_journey refs ≡ true
    → list_all day_in_form (map (inner_tree table) refs) ≡ true
days-said table [] h kind = refl
days-said table (Route route ∷ refs) h kind = cc
days-said table (Stop stop ∷ refs) h kind = cc
days-said table (Journey trip on ∷ refs) h kind =
    and_from (day_in_form (inner_tree table (Journey trip on))) (list_all day_in_form (map (inner_tree table) refs))
    (ap is_ok (day-read on (id_of table.trips trip.0) h.0.1)) (days-said table refs h.1 kind)

-- what stands in the frames
pub frames-read : (table : Table) (refs : List Ref) → list_all is_journey refs ≡ true
    → gather (object_in Member.FramedVehicleJourneyRef) (ref_trees table refs) ≡ Ok (map (inner_tree table) refs)
frames-read table [] kind = refl
frames-read table (Route route ∷ refs) kind = cc
frames-read table (Stop stop ∷ refs) kind = cc
frames-read table (Journey trip on ∷ refs) kind =
    gather-more (object_in Member.FramedVehicleJourneyRef) (ref_tree table (Journey trip on)) (ref_trees table refs)
    (inner_tree table (Journey trip on) ∷ []) (map (inner_tree table) refs)
    (object-read Member.FramedVehicleJourneyRef (ref_tree table (Journey trip on)) (members (journey_members on (id_of table.trips trip.0))) refl)
    (frames-read table refs kind)
