-- The field holds an entity that isn't too long, or none.
use Rattle.std.proofs.Common.{sym, ◌≤◌, length, arith}
use Rattle.wire_fields.specs.Seen.{field_of}
use Rattle.feed_reading.specs.Limits.{entity_limit}
use Rattle.feed_reading.proofs.OneMore.{short_new, short_same}
use Rattle.feed_reading.proofs.quick.feeds.add_entity.Goals as goal

pub returns-in_ok-add_to-in-Some : goal.returns-in_ok-add_to-in-Some
returns-in_ok-add_to-in-Some c = λ fields known.
    let short : length c.in-Some.body.now ≤ entity_limit = omega arith in
    let read = c.in_ok-parts-in-Some.ensures in
    let added = c.in_ok-add_to-in-Some.ensures in
    rw added.1
    (short_new fields (field_of c.args.field.now) c.args.entities.now c.in-Some.body.now added.0 (sym c.in-Some.ensures)
    (record { fields = read.fields; read = read.read; table = added.2 read.fields read.table }) short known)

pub returns-in-None : goal.returns-in-None
returns-in-None c =
    λ fields known. short_same fields (field_of c.args.field.now) c.args.entities.now (sym c.in-None.ensures) known
