use Rattle.wire_fields.proofs.Stays.{broken_stays}
use Rattle.wire_fields.proofs.laws.a_break_stays_law.Goals as goal

pub returns : goal.returns
returns c = broken_stays
