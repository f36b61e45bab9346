-- The field holds a text, or none.
use Rattle.std.proofs.Common.{sym}
use Rattle.wire_fields.specs.Seen.{field_of}
use Rattle.feed_reading.specs.Partly.{seen}
use Rattle.feed_reading.proofs.OneMore.{text_new, text_same}
use Rattle.feed_reading.proofs.quick.fields.text_after.Goals as goal

pub returns-in-Ok : goal.returns-in-Ok
returns-in-Ok c = λ fields known.
    rw c.in-Ok.ensures.cases.0
    (text_new c.args.number fields (field_of c.args.field.now) (seen c.args.last) c.in-Some.body.now
    (sym c.in-Some.ensures) c.in-Ok.ensures.cases.1 known)

pub returns-in-None : goal.returns-in-None
returns-in-None c =
    λ fields known. text_same c.args.number fields (field_of c.args.field.now) (seen c.args.last)
    (sym c.in-None.ensures) known
