-- The field holds a number, or none.
use Rattle.std.proofs.Common.{sym}
use Rattle.wire_fields.specs.Seen.{field_of}
use Rattle.feed_reading.proofs.OneMore.{number_new, number_same}
use Rattle.feed_reading.proofs.quick.fields.number_after.Goals as goal

pub returns-in-Some : goal.returns-in-Some
returns-in-Some c =
    λ fields known. number_new c.args.number fields (field_of c.args.field.now) c.in-Some.value (sym c.in-Some.ensures)

pub returns-in-None : goal.returns-in-None
returns-in-None c =
    λ fields known. number_same c.args.number fields (field_of c.args.field.now) c.args.last (sym c.in-None.ensures)
    known
