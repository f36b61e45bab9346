-- What an item of a delivery is: a record of a journey, or the first fault for which it is set aside (SIRI 2.0,
-- EstimatedVehicleJourney).
use Rattle.std.specs.Prelude.{ℕ, ℤ, Bool, true, false, List, [], ◌∷◌, map, Option, unwrap_or, Result, Ok, Err, if◌then◌else◌, codes}
use Rattle.gw_base.specs.Chains.{◌>>=◌}
use Rattle.gw_base.specs.declared.member.Member.{Member}
use Rattle.journey_model.specs.Records.{Recorded}
use Rattle.journey_model.specs.Schedules.{Schedule}
use Rattle.journey_model.specs.declared.fault.Fault.{Fault}
use Rattle.journey_model.specs.declared.fault.Fault.TheVariants.{BadField}
use Rattle.serde_json.specs.Data.{Data}
use Rattle.serde_json.specs.Find.{get}
use Rattle.service_day.specs.declared.zones.Rules.{Rules}
use Rattle.siri_calls.specs.Calls.{calls_under}
use Rattle.siri_json.specs.Fields.{required, form_at, optional_member, required_member}
use Rattle.siri_json.specs.Forms.{text, flag, day, object_form, is_object, moment}
use Rattle.siri_calls.specs.Frame.{Place, items}
use Rattle.siri_calls.specs.Journeys.{Header, Call}
use Rattle.siri_calls.specs.Judged.{judged}
use Rattle.siri_json.specs.declared.forms.Form.{Form}
use Rattle.siri_json.specs.declared.forms.Form.TheVariants.{Missing, Wrong, Found}

-- when an item was recorded: by the first member that isn't missing, its own and then those of the objects above
abbrev pub or_further : Rules → Form (ℤ × ℕ) → Form (ℤ × ℕ) → Form (ℤ × ℕ)
or_further zone Missing further = further
or_further zone Wrong further = Wrong
or_further zone (Found instant) further = Found instant

abbrev pub first_moment : Rules → List (Option Data) → Form (ℤ × ℕ)
first_moment zone [] = Missing
first_moment zone (place ∷ places) = or_further zone (form_at (moment zone) place) (first_moment zone places)

abbrev pub recorded_at : Rules → Place → Result (ℤ × ℕ) Fault
recorded_at zone place =
    required Member.RecordedAtTime (first_moment zone (get (codes "RecordedAtTime") place.tree ∷ place.further))

-- whether the journey is cancelled, and whether it is an extra one
abbrev pub relation : Data → Result (Bool × Bool) Fault
relation tree = do
  cancelled ← optional_member flag Member.Cancellation tree
  extra ← optional_member flag Member.ExtraJourney tree
  Ok (unwrap_or cancelled false, unwrap_or extra false)

-- what an item says before its calls
abbrev pub header : Rules → Place → Result Header Fault
header zone place = do
  at ← recorded_at zone place
  reference ← required_member object_form Member.FramedVehicleJourneyRef place.tree
  service_day ← required_member day Member.DataFrameRef reference
  trip_id ← required_member text Member.DatedVehicleJourneyRef reference
  said ← relation place.tree
  Ok (record { at = at; day = service_day; trip_id = trip_id; cancelled = said.0; extra = said.1 })

-- the calls of an item, which aren't read where the journey is cancelled
abbrev pub calls_unless : Bool → Rules → Data → Result (List (Option Call)) Fault
calls_unless true zone tree = Ok []
calls_unless false zone tree = calls_under zone tree

-- what an item is: its members are read, and then its journey is judged
abbrev pub item_read : Schedule → Place → Result (Recorded × ℕ) Fault
item_read schedule item = do
  head ← header schedule.zone item
  all ← calls_unless head.cancelled schedule.zone item.tree
  judged schedule head all

abbrev pub verdict : Schedule → Place → Result (Recorded × ℕ) Fault
verdict schedule item =
    if is_object item.tree then item_read schedule item else Err (BadField Member.EstimatedVehicleJourney)

-- the verdicts on all items of a tree in document order, or the member of its frame that is wrong
abbrev pub verdicts : Schedule → Data → Result (List (Result (Recorded × ℕ) Fault)) Member
verdicts schedule root = do
  all ← items root
  Ok (map (verdict schedule) all)
