-- The frame of a delivery of situations: the way from its root to its situations (SIRI 2.0, Siri, ServiceDelivery,
-- SituationExchangeDelivery, Situations, PtSituationElement).
use Rattle.std.specs.Prelude.{List, [], ◌∷◌, Result, Ok, Err}
use Rattle.std.specs.List.{flat_map}
use Rattle.gw_base.specs.declared.member.Member.{Member}
use Rattle.gw_base.specs.Chains.{◌>>=◌}
use Rattle.serde_json.specs.Data.{Data}
use Rattle.siri_json.specs.Fields.{member_form}
use Rattle.siri_json.specs.Forms.{object_form}
use Rattle.siri_json.specs.Frame.{deliveries_in, repeated_under, service_in}
use Rattle.siri_json.specs.declared.forms.Form.{Form}
use Rattle.siri_json.specs.declared.forms.Form.TheVariants.{Missing, Wrong, Found}
use Rattle.siri_situations.specs.Steps.{gather}

-- the object of a delivery in which its situations stand, which may be missing
abbrev pub group_form : Form Data → Result (List Data) Member
group_form Missing = Ok []
group_form Wrong = Err Member.Situations
group_form (Found tree) = Ok (tree ∷ [])

abbrev pub group : Data → Result (List Data) Member
group delivery = group_form (member_form object_form Member.Situations delivery)

-- those of all deliveries, or the first row of the way down that is broken: level by level, over all items of a level
abbrev pub groups_in : Data → Result (List Data) Member
groups_in root = do
  service ← service_in root
  deliveries ← deliveries_in Member.SituationExchangeDelivery service
  gather group deliveries

-- the situations of a delivery's tree in document order, or the member that is wrong
abbrev pub items : Data → Result (List Data) Member
items root = do
  groups ← groups_in root
  Ok (flat_map (repeated_under Member.PtSituationElement) groups)
