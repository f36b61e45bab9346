use Rattle.std.proofs.Common.{refl, inr}
use Rattle.wire_fields.proofs.Parts.{long_after}
use Rattle.wire_fields.proofs.top.advance.size_turn.Goals as goal

pub returns-in-Long-clause-turns : goal.returns-in-Long-clause-turns
returns-in-Long-clause-turns c = λ bytes h. (long_after c.args.number 2 bytes (inr refl) (rw c.in-Long.is at h), λ e. absurd cc)
