-- The way down from the root of a delivery (SIRI 2.0, Siri and ServiceDelivery), and repeated elements. The fault of a
-- way is the member that is wrong.
use Rattle.std.specs.Prelude.{List, [], ◌∷◌, Option, Some, None, Result, Ok, Err, if◌then◌else◌}
use Rattle.std.specs.List.{list_all}
use Rattle.gw_base.specs.Member.{member_name}
use Rattle.gw_base.specs.declared.member.Member.{Member}
use Rattle.gw_base.specs.Chains.{◌>>=◌}
use Rattle.serde_json.specs.Data.{Data, null, boolean, number, string, array, object}
use Rattle.serde_json.specs.Find.{get}
use Rattle.siri_json.specs.Fields.{member_form}
use Rattle.siri_json.specs.Forms.{is_object, object_form, repeated}
use Rattle.siri_json.specs.declared.forms.Form.{Form}
use Rattle.siri_json.specs.declared.forms.Form.TheVariants.{Missing, Wrong, Found}

-- the root is an object, and so is its member `Siri`, which is then taken in its place
abbrev pub under_siri : Data → Form Data → Result Data Member
under_siri root Missing = Ok root
under_siri root Wrong = Err Member.Siri
under_siri root (Found siri) = Ok siri

abbrev pub siri : Data → Result Data Member
siri root = if is_object root then under_siri root (member_form object_form Member.Siri root) else Err Member.Siri

-- an object that has to be there
abbrev pub needed : Member → Form Data → Result Data Member
needed member Missing = Err member
needed member Wrong = Err member
needed member (Found tree) = Ok tree

-- the items of a repeated element, each of which must be an object
abbrev pub each_object : Member → List Data → Result (List Data) Member
each_object member items = if list_all is_object items then Ok items else Err member

-- the service delivery of a root
abbrev pub service_in : Data → Result Data Member
service_in root = do
  body ← siri root
  needed Member.ServiceDelivery (member_form object_form Member.ServiceDelivery body)

-- an element that has to be there: an empty array is accepted, null and an empty text are not
abbrev pub there : Member → Option Data → Result (List Data) Member
there member None = Err member
there member (Some null) = Err member
there member (Some (boolean b)) = Err member
there member (Some (number n)) = Err member
there member (Some (string s)) = Err member
there member (Some (array items)) = each_object member (repeated (array items))
there member (Some (object parts)) = Ok (object parts ∷ [])

-- the items of an element that may be missing
abbrev pub repeated_at : Option Data → List Data
repeated_at None = []
repeated_at (Some found) = repeated found

abbrev pub repeated_under : Member → Data → List Data
repeated_under member tree = repeated_at (get (member_name member) tree)

-- the deliveries under a name in a service delivery
abbrev pub deliveries_in : Member → Data → Result (List Data) Member
deliveries_in member service = there member (get (member_name member) service)
