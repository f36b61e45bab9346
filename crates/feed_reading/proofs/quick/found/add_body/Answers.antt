-- The field holds a body, or none.
use Rattle.std.proofs.Common.{sym}
use Rattle.wire_fields.specs.Seen.{field_of}
use Rattle.feed_reading.proofs.OneMore.{found_new, found_same}
use Rattle.feed_reading.proofs.quick.found.add_body.Goals as goal

pub returns-in_ok-found-in-Some : goal.returns-in_ok-found-in-Some
returns-in_ok-found-in-Some c = λ fields known.
    found_new c.args.number fields (field_of c.args.field.now) c.args.found.now c.in_ok-found-in-Some.field-0
    c.in-Some.body.now (sym c.in-Some.ensures)
    (rw c.replace-before.ensures.value at c.in_ok-found-in-Some.ensures) known

pub returns-in-None : goal.returns-in-None
returns-in-None c =
    λ fields known. found_same c.args.number fields (field_of c.args.field.now) c.args.found.now
    (sym c.in-None.ensures) known
