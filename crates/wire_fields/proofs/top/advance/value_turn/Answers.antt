use Rattle.std.proofs.Common.{refl, inl}
use Rattle.wire_fields.proofs.Parts.{long_after, value_plain}
use Rattle.wire_fields.proofs.top.advance.value_turn.Goals as goal

pub returns-in-Whole-clause-turns : goal.returns-in-Whole-clause-turns
returns-in-Whole-clause-turns c = λ number bytes h. value_plain number c.in-Whole.field-0 bytes (rw c.in-Whole.is at h)

pub returns-in-Long-clause-turns : goal.returns-in-Long-clause-turns
returns-in-Long-clause-turns c = λ number bytes h. (long_after number 0 bytes (inl refl) (rw c.in-Long.is at h), λ e. absurd cc)
