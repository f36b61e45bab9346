use Rattle.wire_fields.proofs.Parts.{long_tag}
use Rattle.wire_fields.proofs.top.advance.tag_turn.Goals as goal

pub returns-in-Long-clause-turns : goal.returns-in-Long-clause-turns
returns-in-Long-clause-turns c = λ bytes h. (long_tag bytes (rw c.in-Long.is at h), λ e. absurd cc)
