-- The calls of a journey (SIRI 2.0, RecordedCall and EstimatedCall).
use Rattle.std.specs.Prelude.{◌&&◌, ◌||◌, ℕ, ℤ, Bool, true, false, List, [], ◌∷◌, ◌++◌, codes, Option, Some, None, option_map, is_none, unwrap_or, Result, Ok, if◌then◌else◌}
use Rattle.std.specs.Option.{option_or}
use Rattle.gw_base.specs.Chains.{◌>>=◌}
use Rattle.gw_base.specs.declared.member.Member.{Member}
use Rattle.journey_model.specs.declared.fault.Fault.{Fault}
use Rattle.serde_json.specs.Data.{Data}
use Rattle.service_day.specs.declared.zones.Rules.{Rules}
use Rattle.siri_calls.specs.declared.call_reading.Statuses.{Statuses}
use Rattle.siri_json.specs.Fields.{optional_member, required_member}
use Rattle.siri_json.specs.Forms.{text, flag, whole, moment, object_form, objects}
use Rattle.siri_calls.specs.Journeys.{Call}
use Rattle.siri_json.specs.Words.{is_word}

-- a status is `cancelled`
abbrev pub says_cancelled : List ℕ → Bool
says_cancelled status = is_word (codes "cancelled") status

-- a status, where there is one: whether it is `cancelled`
abbrev pub status : Member → Data → Result (Option Bool) Fault
status member tree = do
  said ← optional_member text member tree
  Ok (option_map says_cancelled said)

abbrev pub is_cancelled : Option Bool → Bool
is_cancelled status = unwrap_or status false

-- a stop is skipped where the call is cancelled, or where one status is `cancelled` and the other is too or is missing
abbrev pub is_skip : Option Bool → Option Bool → Option Bool → Bool
is_skip cancellation arrival departure =
    unwrap_or cancellation false
    || ((is_cancelled arrival && (is_cancelled departure || is_none departure))
    || (is_cancelled departure && (is_cancelled arrival || is_none arrival)))

-- what the members of a call say of whether the journey stops there
abbrev pub statuses : Data → Result Statuses Fault
statuses tree = do
  cancellation ← optional_member flag Member.Cancellation tree
  arrival ← status Member.ArrivalStatus tree
  departure ← status Member.DepartureStatus tree
  Ok (record {
    skip = is_skip cancellation arrival departure;
    no_arrival = is_cancelled arrival;
    no_departure = is_cancelled departure;
  })

-- the time of an event, in whole seconds: none where its status is `cancelled`, else the actual time, else the expected
-- one
abbrev pub event_time : Bool → Option (ℤ × ℕ) → Option (ℤ × ℕ) → Option ℤ
event_time none actual expected = if none then None else option_map (λ instant. instant.0) (option_or actual expected)

abbrev pub event : Rules → Bool → Member → Member → Data → Result (Option ℤ) Fault
event zone none actual_member expected_member tree = do
  actual ← optional_member (moment zone) actual_member tree
  expected ← optional_member (moment zone) expected_member tree
  Ok (event_time none actual expected)

-- what the members of a call that is no extra call give
abbrev pub call_read : Rules → Data → Result Call Fault
call_read zone tree = do
  stop ← required_member text Member.StopPointRef tree
  order ← optional_member whole Member.Order tree
  said ← statuses tree
  arrival ← event zone said.no_arrival Member.ActualArrivalTime Member.ExpectedArrivalTime tree
  departure ← event zone said.no_departure Member.ActualDepartureTime Member.ExpectedDepartureTime tree
  Ok (record { stop = stop; order = order; skip = said.skip; arrival = arrival; departure = departure })

-- a call: none where it is an extra call, which is passed over with its other members unread
abbrev pub unless_extra : Rules → Data → Bool → Result (Option Call) Fault
unless_extra zone tree true = Ok None
unless_extra zone tree false = do
  call ← call_read zone tree
  Ok (Some call)

abbrev pub call : Rules → Data → Result (Option Call) Fault
call zone tree = do
  extra ← optional_member flag Member.ExtraCall tree
  unless_extra zone tree (unwrap_or extra false)

-- the calls of trees in order, or the first fault
abbrev pub calls : Rules → List Data → Result (List (Option Call)) Fault
calls zone [] = Ok []
calls zone (tree ∷ trees) = do
  first ← call zone tree
  others ← calls zone trees
  Ok (first ∷ others)

-- the trees of the calls under one of the two members: an object, in which the calls are repeated objects
abbrev pub trees_in : Member → Option Data → Result (List Data) Fault
trees_in member None = Ok []
trees_in member (Some parent) = do
  found ← optional_member objects member parent
  Ok (unwrap_or found [])

abbrev pub trees_under : Member → Member → Data → Result (List Data) Fault
trees_under group member tree = do
  parent ← optional_member object_form group tree
  trees_in member parent

-- the trees of a journey's calls: the recorded ones, and then the estimated ones
abbrev pub call_trees : Data → Result (List Data) Fault
call_trees tree = do
  before ← trees_under Member.RecordedCalls Member.RecordedCall tree
  after ← trees_under Member.EstimatedCalls Member.EstimatedCall tree
  Ok (before ++ after)

-- the calls of a journey's tree
abbrev pub calls_under : Rules → Data → Result (List (Option Call)) Fault
calls_under zone tree = do
  trees ← call_trees tree
  calls zone trees
