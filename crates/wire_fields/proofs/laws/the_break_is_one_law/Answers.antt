use Rattle.wire_fields.proofs.Broken.{broken_once}
use Rattle.wire_fields.proofs.laws.the_break_is_one_law.Goals as goal

pub returns : goal.returns
returns c = broken_once
