use Rattle.wire_fields.proofs.Broken.{fields_once}
use Rattle.wire_fields.proofs.laws.fields_are_one_law.Goals as goal

pub returns : goal.returns
returns c = fields_once
