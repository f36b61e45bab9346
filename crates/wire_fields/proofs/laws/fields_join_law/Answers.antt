use Rattle.wire_fields.specs.Grammar.{IsSpelling}
use Rattle.wire_fields.proofs.Lists.{Concatenates-append}
use Rattle.wire_fields.proofs.laws.fields_join_law.Goals as goal

pub returns : goal.returns
returns c = λ front back fields others h k. Concatenates-append (IsSpelling 64) fields others front back h k
