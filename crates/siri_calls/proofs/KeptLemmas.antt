-- A delivery's verdicts are the same where members are dropped whose names nobody asks for.
use Rattle.std.proofs.Common.{◌≡◌, List, [], codes, Bool, true, false, if◌then◌else◌, Option, unwrap_or, Ok, Err, refl, ap}
use Rattle.std.specs.List.{list_all}
use Rattle.gw_base.specs.Member.{member_name}
use Rattle.gw_base.specs.declared.member.Member.{Member}
use Rattle.journey_model.specs.Schedules.{Schedule}
use Rattle.journey_model.specs.declared.fault.Fault.TheVariants.{BadField}
use Rattle.json.specs.Json as json
use Rattle.serde_json.specs.Data.{Data}
use Rattle.service_day.specs.declared.zones.Rules.{Rules}
use Rattle.json_tree.specs.Kept.{kept}
use Rattle.json_tree.specs.Trees.{data_of}
use Rattle.json_tree.proofs.KeptLemmas.{Alike, alike, AlikeOption, neither, both, AlikeList, empty, more, AlikeResult, fine, get-alike, unwrap_or-alike, map-alike, map-same, append-alike, flat_map-alike, list_all-same}
use Rattle.siri_json.specs.Fields.{optional_member, required, required_member}
use Rattle.siri_json.specs.Forms.{day, flag, moment, object_form, objects, text, whole}
use Rattle.siri_json.proofs.KeptLemmas.{then-alike, then-each, then-same, unless_fault, text-same, flag-same, whole-same, moment-same, day-same, is_object-same, object_form-alike, objects-alike, form_at-same, optional_member-same, required_member-same, optional_member-alike, required_member-alike, service_in-alike, deliveries_in-alike, repeated_under-alike}
use Rattle.siri_calls.specs.Calls.{call, call_read, call_trees, calls, calls_under, event, status, statuses, trees_in, trees_under, unless_extra}
use Rattle.siri_calls.specs.Frame.{Place, all_objects, delivery_place, frame_place, frames_below, frames_in, frames_of, has_object, item_place, items, items_below, places_in}
use Rattle.siri_calls.specs.ReadMembers.{is_read}
use Rattle.siri_calls.specs.Verdicts.{calls_unless, first_moment, header, item_read, or_further, recorded_at, relation, verdict, verdicts}

-- ---- the frame

-- two objects of deliveries, and the members above them that may say when an item was recorded
pub record AlikePlace (p q : Place) : Type 0 where
  pub tree : Alike is_read p.tree q.tree
  pub further : AlikeList (AlikeOption (Alike is_read)) p.further q.further

-- the deliveries
delivery_place-alike : {s t a b : Data} → Alike is_read s t → Alike is_read a b → AlikePlace (delivery_place s a) (delivery_place t b)
delivery_place-alike service h = record {
  tree = h;
  further = more (get-alike (codes "ResponseTimestamp") refl h) (more (get-alike (codes "ResponseTimestamp") refl service) empty);
}

places_in-alike : {a b : Data} → Alike is_read a b → AlikeResult (AlikeList AlikePlace) (places_in a) (places_in b)
places_in-alike {a = a} {b = b} h =
    then-alike _ _ (deliveries_in-alike Member.EstimatedTimetableDelivery refl h)
    (λ xs ys trees. fine (map-alike (delivery_place a) (delivery_place b) (λ c d one. delivery_place-alike h one) trees))

-- the frames below the deliveries
frame_place-alike : {p q : Place} {a b : Data} → AlikePlace p q → Alike is_read a b → AlikePlace (frame_place p a) (frame_place q b)
frame_place-alike delivery h = record { tree = h; further = more (get-alike (codes "RecordedAtTime") refl h) delivery.further }

frames_below-alike : (p q : Place) → AlikePlace p q → AlikeList AlikePlace (frames_below p) (frames_below q)
frames_below-alike p q h =
    map-alike (frame_place p) (frame_place q) (λ a b one. frame_place-alike h one) (repeated_under-alike Member.EstimatedJourneyVersionFrame refl h.tree)

all_objects-alike : {ps qs : List Place} → AlikeList AlikePlace ps qs → AlikeResult (AlikeList AlikePlace) (all_objects ps) (all_objects qs)
all_objects-alike {ps = ps} {qs = qs} h =
    unless_fault (list_all has_object ps) (list_all has_object qs) Member.EstimatedJourneyVersionFrame
    (list_all-same has_object has_object (λ p q one. is_object-same one.tree) h) (fine h)

frames_of-alike : {ps qs : List Place} → AlikeList AlikePlace ps qs → AlikeResult (AlikeList AlikePlace) (frames_of ps) (frames_of qs)
frames_of-alike h = all_objects-alike (flat_map-alike frames_below frames_below frames_below-alike h)

-- the items below the frames
item_place-alike : {p q : Place} {a b : Data} → AlikePlace p q → Alike is_read a b → AlikePlace (item_place p a) (item_place q b)
item_place-alike frame h = record { tree = h; further = frame.further }

items_below-alike : (p q : Place) → AlikePlace p q → AlikeList AlikePlace (items_below p) (items_below q)
items_below-alike p q h =
    map-alike (item_place p) (item_place q) (λ a b one. item_place-alike h one) (repeated_under-alike Member.EstimatedVehicleJourney refl h.tree)

-- the frames of a delivery, and its items
pub frames_in-alike : {a b : Data} → Alike is_read a b → AlikeResult (AlikeList AlikePlace) (frames_in a) (frames_in b)
frames_in-alike h =
    then-alike _ _ (service_in-alike refl refl h)
    (λ a b service. then-alike _ _ (places_in-alike service) (λ ps qs deliveries. frames_of-alike deliveries))

pub items-alike : {a b : Data} → Alike is_read a b → AlikeResult (AlikeList AlikePlace) (items a) (items b)
items-alike h = then-alike _ _ (frames_in-alike h) (λ ps qs frames. fine (flat_map-alike items_below items_below items_below-alike frames))

-- ---- members in their forms

-- a flag, a moment and a text under a name that is read
flag-read : {a b : Data} (member : Member) → is_read (member_name member) ≡ true → Alike is_read a b → optional_member flag member a ≡ optional_member flag member b
flag-read member asked h = optional_member-same flag member (λ a b one. flag-same refl one) asked h

moment-read : {a b : Data} (zone : Rules) (member : Member) → is_read (member_name member) ≡ true → Alike is_read a b
    → optional_member (moment zone) member a ≡ optional_member (moment zone) member b
moment-read zone member asked h = optional_member-same (moment zone) member (λ a b one. moment-same zone refl one) asked h

text-needed : {a b : Data} (member : Member) → is_read (member_name member) ≡ true → Alike is_read a b → required_member text member a ≡ required_member text member b
text-needed member asked h = required_member-same text member (λ a b one. text-same refl one) asked h

-- ---- calls

-- what a call says
status-same : {a b : Data} (member : Member) → is_read (member_name member) ≡ true → Alike is_read a b → status member a ≡ status member b
status-same member asked h = then-each _ _ (optional_member-same text member (λ a b one. text-same refl one) asked h) (λ said. refl)

statuses-same : {a b : Data} → Alike is_read a b → statuses a ≡ statuses b
statuses-same h =
    then-each _ _ (flag-read Member.Cancellation refl h) (λ cancellation.
    then-each _ _ (status-same Member.ArrivalStatus refl h) (λ arrival.
    then-each _ _ (status-same Member.DepartureStatus refl h) (λ departure. refl)))

event-same : {a b : Data} (zone : Rules) (cancelled : Bool) (actual expected : Member) → is_read (member_name actual) ≡ true → is_read (member_name expected) ≡ true
    → Alike is_read a b → event zone cancelled actual expected a ≡ event zone cancelled actual expected b
event-same zone cancelled actual expected asked asked' h =
    then-each _ _ (moment-read zone actual asked h) (λ first.
    then-each _ _ (moment-read zone expected asked' h) (λ second. refl))

call_read-same : {a b : Data} (zone : Rules) → Alike is_read a b → call_read zone a ≡ call_read zone b
call_read-same zone h =
    then-each _ _ (text-needed Member.StopPointRef refl h) (λ stop.
    then-each _ _ (optional_member-same whole Member.Order (λ a b one. whole-same refl one) refl h) (λ order.
    then-each _ _ (statuses-same h) (λ said.
    then-each _ _ (event-same zone said.no_arrival Member.ActualArrivalTime Member.ExpectedArrivalTime refl refl h) (λ arrival.
    then-each _ _ (event-same zone said.no_departure Member.ActualDepartureTime Member.ExpectedDepartureTime refl refl h) (λ departure. refl)))))

unless_extra-same : {a b : Data} (zone : Rules) (extra : Bool) → Alike is_read a b → unless_extra zone a extra ≡ unless_extra zone b extra
unless_extra-same zone true h = refl
unless_extra-same zone false h = then-each _ _ (call_read-same zone h) (λ one. refl)

call-same : {a b : Data} (zone : Rules) → Alike is_read a b → call zone a ≡ call zone b
call-same zone h = then-each _ _ (flag-read Member.ExtraCall refl h) (λ extra. unless_extra-same zone (unwrap_or extra false) h)

-- the calls of a journey
calls-same : {xs ys : List Data} (zone : Rules) → AlikeList (Alike is_read) xs ys → calls zone xs ≡ calls zone ys
calls-same zone empty = refl
calls-same zone (more one others) = then-each _ _ (call-same zone one) (λ first. then-each _ _ (calls-same zone others) (λ rest. refl))

trees_in-alike : {x y : Option Data} (member : Member) → is_read (member_name member) ≡ true → AlikeOption (Alike is_read) x y
    → AlikeResult (AlikeList (Alike is_read)) (trees_in member x) (trees_in member y)
trees_in-alike member asked neither = fine empty
trees_in-alike member asked (both parent) =
    then-alike _ _ (optional_member-alike objects member (λ a b one. objects-alike one) asked parent) (λ x y found. fine (unwrap_or-alike [] [] found empty))

trees_under-alike : {a b : Data} (group member : Member) → is_read (member_name group) ≡ true → is_read (member_name member) ≡ true → Alike is_read a b
    → AlikeResult (AlikeList (Alike is_read)) (trees_under group member a) (trees_under group member b)
trees_under-alike group member asked asked' h =
    then-alike _ _ (optional_member-alike object_form group (λ a b one. object_form-alike one) asked h) (λ x y parent. trees_in-alike member asked' parent)

call_trees-alike : {a b : Data} → Alike is_read a b → AlikeResult (AlikeList (Alike is_read)) (call_trees a) (call_trees b)
call_trees-alike h =
    then-alike _ _ (trees_under-alike Member.RecordedCalls Member.RecordedCall refl refl h) (λ xs ys before.
    then-alike _ _ (trees_under-alike Member.EstimatedCalls Member.EstimatedCall refl refl h) (λ us vs after. fine (append-alike before after)))

pub calls_under-same : {a b : Data} (zone : Rules) → Alike is_read a b → calls_under zone a ≡ calls_under zone b
calls_under-same zone h = then-same _ _ (call_trees-alike h) (λ xs ys trees. calls-same zone trees)

-- ---- items

-- when an item was recorded
first_moment-same : {xs ys : List (Option Data)} (zone : Rules) → AlikeList (AlikeOption (Alike is_read)) xs ys → first_moment zone xs ≡ first_moment zone ys
first_moment-same zone empty = refl
first_moment-same zone (more one others) =
    λ i. or_further zone (form_at-same (moment zone) (λ a b said. moment-same zone refl said) one i) (first_moment-same zone others i)

recorded_at-same : {p q : Place} (zone : Rules) → AlikePlace p q → recorded_at zone p ≡ recorded_at zone q
recorded_at-same zone h = ap (required Member.RecordedAtTime) (first_moment-same zone (more (get-alike (codes "RecordedAtTime") refl h.tree) h.further))

-- what an item says before its calls
relation-same : {a b : Data} → Alike is_read a b → relation a ≡ relation b
relation-same h =
    then-each _ _ (flag-read Member.Cancellation refl h) (λ cancelled.
    then-each _ _ (flag-read Member.ExtraJourney refl h) (λ extra. refl))

pub header-same : {p q : Place} (zone : Rules) → AlikePlace p q → header zone p ≡ header zone q
header-same zone h =
    then-each _ _ (recorded_at-same zone h) (λ at.
    then-same _ _ (required_member-alike object_form Member.FramedVehicleJourneyRef (λ a b one. object_form-alike one) refl h.tree) (λ a b reference.
    then-each _ _ (required_member-same day Member.DataFrameRef (λ c d one. day-same refl one) refl reference) (λ service_day.
    then-each _ _ (text-needed Member.DatedVehicleJourneyRef refl reference) (λ trip_id.
    then-each _ _ (relation-same h.tree) (λ said. refl)))))

-- what an item is
calls_unless-same : {a b : Data} (cancelled : Bool) (zone : Rules) → Alike is_read a b → calls_unless cancelled zone a ≡ calls_unless cancelled zone b
calls_unless-same true zone h = refl
calls_unless-same false zone h = calls_under-same zone h

item_read-same : {p q : Place} (schedule : Schedule) → AlikePlace p q → item_read schedule p ≡ item_read schedule q
item_read-same schedule h =
    then-each _ _ (header-same schedule.zone h) (λ head.
    then-each _ _ (calls_unless-same head.cancelled schedule.zone h.tree) (λ all. refl))

pub verdict-same : {p q : Place} (schedule : Schedule) → AlikePlace p q → verdict schedule p ≡ verdict schedule q
verdict-same schedule h = λ i. if is_object-same h.tree i then item_read-same schedule h i else Err (BadField Member.EstimatedVehicleJourney)

-- the verdicts on all items
pub verdicts-same : {a b : Data} (schedule : Schedule) → Alike is_read a b → verdicts schedule a ≡ verdicts schedule b
verdicts-same schedule h =
    then-same _ _ (items-alike h) (λ ps qs all. ap Ok (map-same (verdict schedule) (verdict schedule) (λ p q one. verdict-same schedule one) all))

-- nothing that a delivery says depends on members of names that aren't read
pub verdicts-kept : (schedule : Schedule) (tree : json.Json) → verdicts schedule (data_of (kept is_read tree)) ≡ verdicts schedule (data_of tree)
verdicts-kept schedule tree = verdicts-same schedule (alike tree)
