use Rattle.std.proofs.Common.{refl}
use Rattle.std.proofs.lemmas.List.{take_rest}
use Rattle.wire_fields.specs.Seen.{field_of}
use Rattle.wire_fields.proofs.Fronts.{next_is, next_continues, next_broken, next_not_broken}
use Rattle.wire_fields.proofs.reading.next_field.Goals as goal

pub returns-in-Ok-clause-field : goal.returns-in-Ok-clause-field
returns-in-Ok-clause-field c = next_is c.args.bytes.now c.in-Ok.rest.now c.args.at (field_of c.in-Ok.field) c.requires.place (rw take_rest at c.in-Ok.ensures.found)

pub returns-in-Ok-clause-fields : goal.returns-in-Ok-clause-fields
returns-in-Ok-clause-fields c = next_continues c.args.bytes.now c.in-Ok.rest.now c.args.at (field_of c.in-Ok.field) c.requires.place (rw take_rest at c.in-Ok.ensures.found)

pub returns-in-Ok-clause-only_broken : goal.returns-in-Ok-clause-only_broken
returns-in-Ok-clause-only_broken c = λ kind h. absurd (next_not_broken c.args.bytes.now c.in-Ok.rest.now c.args.at (field_of c.in-Ok.field) kind (rw take_rest at c.in-Ok.ensures.found) h)

pub returns-in-Err-clause-broken : goal.returns-in-Err-clause-broken
returns-in-Err-clause-broken c = (refl, next_broken c.args.bytes.now c.args.at c.in-Err.kind c.requires.front.0 c.requires.place c.if-at-bytes.false c.requires.front.1 (rw take_rest at c.in-Err.ensures.fault))
