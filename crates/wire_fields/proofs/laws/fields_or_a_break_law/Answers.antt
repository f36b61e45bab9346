use Rattle.wire_fields.proofs.Broken.{fields_or_broken}
use Rattle.wire_fields.proofs.Existence.{decided}
use Rattle.wire_fields.proofs.laws.fields_or_a_break_law.Goals as goal

pub returns-clause-one : goal.returns-clause-one
returns-clause-one c = decided

pub returns-clause-not_both : goal.returns-clause-not_both
returns-clause-not_both c = fields_or_broken
