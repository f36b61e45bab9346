use Rattle.std.proofs.Common.{◌≡◌, ◌+◌, ◌-◌, length, take, refl, arith}
use Rattle.std.proofs.lemmas.List.{length-take}
use Rattle.wire_fields.specs.TopReading.{LacksSome}
use Rattle.wire_fields.proofs.Parts.{tagged_on, lacks_less, four_plain}
use Rattle.wire_fields.proofs.top.advance.advance_four.Goals as goal

pub returns-then-used-left-clause-turns : goal.returns-then-used-left-clause-turns
returns-then-used-left-clause-turns c = λ read h.
    let used = c.min-used.result in
    let bytes = c.args.bytes.now in
    four_plain h.0 c.args.left read (take used bytes) h.1 (omega (arith, length-take used bytes))

pub returns-clause-turns : goal.returns-clause-turns
returns-clause-turns c = λ read h.
    let used = c.min-used.result in
    let bytes = c.args.bytes.now in
    let left = c.args.left in
    let sum : length (take used bytes) + (left - used) ≡ left = omega (arith, length-take used bytes) in
    ((h.0, tagged_on h.0 5 (LacksSome 4 left) (LacksSome 4 (left - used)) read (take used bytes) h.1 (λ rest k. lacks_less 4 left (left - used) rest (take used bytes) k sum (omega arith))), refl)
