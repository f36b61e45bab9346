-- What a situation affects (SIRI 2.0, Affects): its references to lines, stop points and journeys, and which of them
-- are known.
use Rattle.std.specs.Prelude.{◌-◌, ℕ, ℤ, Bool, true, List, [], ◌∷◌, ◌++◌, length, map, filter_map, option_to_list, is_ok, Result, Ok, Err, if◌then◌else◌}
use Rattle.std.specs.List.{list_all}
use Rattle.gw_base.specs.declared.member.Member.{Member}
use Rattle.gw_base.specs.Chains.{◌>>=◌}
use Rattle.journey_model.specs.Names.{journey_named, route_named, stop_named}
use Rattle.journey_model.specs.declared.fault.Fault.{Fault}
use Rattle.journey_model.specs.declared.fault.Fault.TheVariants.{BadField, NoAffects, UnknownRef}
use Rattle.journey_model.specs.declared.situation.Ref.{Ref}
use Rattle.serde_json.specs.Data.{Data}
use Rattle.siri_json.specs.Fields.{optional_member, required_member}
use Rattle.siri_json.specs.Forms.{text, day}
use Rattle.timetable.specs.Table.{Table}
use Rattle.siri_situations.specs.Steps.{gather, trees_at, walk}
use Rattle.siri_situations.specs.declared.affected.AffectedKind.{AffectedKind}
use Rattle.siri_situations.specs.declared.affected.AffectedKind.TheVariants.{Line, StopPoint, VehicleJourney}
use Rattle.siri_situations.specs.declared.affected.Reference.{Reference}
use Rattle.siri_situations.specs.declared.steps.Step.{Step}
use Rattle.siri_situations.specs.declared.steps.Step.TheVariants.{Object, Repeated}

-- the way from Affects to the objects that hold the references of a kind
abbrev pub steps : AffectedKind → List Step
steps Line = Object Member.Networks ∷ Repeated Member.AffectedNetwork ∷ Repeated Member.AffectedLine ∷ []
steps StopPoint = Object Member.StopPoints ∷ Repeated Member.AffectedStopPoint ∷ []
steps VehicleJourney =
    Object Member.VehicleJourneys ∷ Repeated Member.AffectedVehicleJourney ∷ Object Member.FramedVehicleJourneyRef ∷ []

-- a reference to the line, the stop or the trip with an id: it is known where the timetable has it
abbrev pub line_reference : Table → List ℕ → Reference
line_reference table id = record {
  member = Member.LineRef;
  known = route_named table id;
}

abbrev pub stop_reference : Table → List ℕ → Reference
stop_reference table id = record {
  member = Member.StopPointRef;
  known = stop_named table id;
}

abbrev pub journey_reference : Table → ℤ → List ℕ → Reference
journey_reference table on id = record {
  member = Member.DatedVehicleJourneyRef;
  known = journey_named table id on;
}

-- the reference that an object holds: one without its last member is passed over, but a journey needs its day and its
-- id
abbrev pub reference : AffectedKind → Table → Data → Result (List Reference) Fault
reference Line table tree = do
  id ← optional_member text Member.LineRef tree
  Ok (map (line_reference table) (option_to_list id))
reference StopPoint table tree = do
  id ← optional_member text Member.StopPointRef tree
  Ok (map (stop_reference table) (option_to_list id))
reference VehicleJourney table tree = do
  on ← required_member day Member.DataFrameRef tree
  id ← required_member text Member.DatedVehicleJourneyRef tree
  Ok (journey_reference table on id ∷ [])

-- the days of all journeys come before their ids
abbrev pub day_in_form : Data → Bool
day_in_form tree = is_ok (required_member day Member.DataFrameRef tree)

abbrev pub days_in_form : AffectedKind → List Data → Bool
days_in_form Line trees = true
days_in_form StopPoint trees = true
days_in_form VehicleJourney trees = list_all day_in_form trees

-- the references that objects of a kind hold
abbrev pub references_in : AffectedKind → Table → List Data → Result (List Reference) Fault
references_in kind table trees =
    if days_in_form kind trees then gather (reference kind table) trees else Err (BadField Member.DataFrameRef)

-- the references of a kind below Affects
abbrev pub references_by : AffectedKind → Table → List Data → Result (List Reference) Fault
references_by kind table affects = do
  trees ← walk (steps kind) affects
  references_in kind table trees

-- all references: of lines, of stop points, and of journeys
abbrev pub references_below : Table → List Data → Result (List Reference) Fault
references_below table affects = do
  lines ← references_by Line table affects
  stops ← references_by StopPoint table affects
  journeys ← references_by VehicleJourney table affects
  Ok (lines ++ stops ++ journeys)

-- the references of a situation: none where Affects is missing
abbrev pub references : Table → Data → Result (List Reference) Fault
references table tree = do
  affects ← trees_at (Object Member.Affects) tree
  references_below table affects

-- those that are known, in their order
abbrev pub known : List Reference → List Ref
known all = filter_map (λ one. one.known) all

-- what a situation affects, and how many of its references aren't known: it has a reference, and one that is known
abbrev pub unless_none : Member → ℕ → List Ref → Result (List Ref × ℕ) Fault
unless_none first unknown [] = Err (UnknownRef first)
unless_none first unknown (ref ∷ refs) = Ok (ref ∷ refs, unknown)

abbrev pub affected : List Reference → Result (List Ref × ℕ) Fault
affected [] = Err NoAffects
affected (first ∷ others) =
    unless_none first.member (length (first ∷ others) - length (known (first ∷ others))) (known (first ∷ others))
