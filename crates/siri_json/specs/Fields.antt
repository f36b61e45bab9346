-- The members of an item, each read in its form (SIRI 2.0, EstimatedVehicleJourney; in JSON after SIRI Lite).
use Rattle.std.specs.Prelude.{Option, Some, None, Result, Ok, Err}
use Rattle.gw_base.specs.Member.{member_name}
use Rattle.gw_base.specs.declared.member.Member.{Member}
use Rattle.journey_model.specs.declared.fault.Fault.{Fault}
use Rattle.journey_model.specs.declared.fault.Fault.TheVariants.{BadField}
use Rattle.serde_json.specs.Data.{Data}
use Rattle.serde_json.specs.Find.{get}
use Rattle.siri_json.specs.declared.forms.Form.{Form}
use Rattle.siri_json.specs.declared.forms.Form.TheVariants.{Missing, Wrong, Found}

-- what a form is where the member may be missing, and where it is required
abbrev pub optional : {A : Type 0} → Member → Form A → Result (Option A) Fault
optional member Missing = Ok None
optional member Wrong = Err (BadField member)
optional member (Found value) = Ok (Some value)

abbrev pub required : {A : Type 0} → Member → Form A → Result A Fault
required member Missing = Err (BadField member)
required member Wrong = Err (BadField member)
required member (Found value) = Ok value

-- the form of a member, by a reader of forms
abbrev pub form_at : {A : Type 0} → (Data → Form A) → Option Data → Form A
form_at read None = Missing
form_at read (Some tree) = read tree

abbrev pub member_form : {A : Type 0} → (Data → Form A) → Member → Data → Form A
member_form read member tree = form_at read (get (member_name member) tree)

-- a member that may be missing, and one that is required
abbrev pub optional_member : {A : Type 0} → (Data → Form A) → Member → Data → Result (Option A) Fault
optional_member read member tree = optional member (member_form read member tree)

abbrev pub required_member : {A : Type 0} → (Data → Form A) → Member → Data → Result A Fault
required_member read member tree = required member (member_form read member tree)
