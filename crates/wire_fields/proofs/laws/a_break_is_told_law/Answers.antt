use Rattle.wire_fields.proofs.Tops.{stands_no_break}
use Rattle.wire_fields.proofs.laws.a_break_is_told_law.Goals as goal

pub returns : goal.returns
returns c = stands_no_break
