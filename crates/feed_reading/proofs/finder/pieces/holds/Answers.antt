-- One field further.
use Rattle.std.proofs.Common.{[]}
use Rattle.wire_fields.specs.Seen.{field_of}
use Rattle.feed_reading.proofs.PieceWalks.{goes_on_both, goes_on_none, empty_begins_none, stands_some, stands_none, shorter}
use Rattle.feed_reading.proofs.finder.pieces.holds.Goals as goal

pub loop-field-smaller : goal.loop-field-smaller
loop-field-smaller c =
    shorter c.loop-field.rest c.in-Ok-Some.after _ (rw c.in-Ok-Some.field-0-is at c.in-Ok-Some.ensures.found)

pub loop-field-preserved : goal.loop-field-preserved
loop-field-preserved c =
    goes_on_both c.args.number [] [] [] c.args.piece.now c.loop-field.rest c.in-Ok-Some.after c.loop-field.invariant
    (goes_on_none c.args.number [] c.loop-field.rest c.in-Ok-Some.after (field_of c.in-Ok-Some.field)
    (rw c.in-Ok-Some.field-0-is at c.in-Ok-Some.ensures.found) c.in-None.ensures)

pub returns-in-Some : goal.returns-in-Some
returns-in-Some c =
    stands_some c.args.number c.args.piece.now c.loop-field.rest c.in-Ok-Some.after c.in-Some._inner
    (field_of c.in-Ok-Some.field) c.loop-field.invariant
    (rw c.in-Ok-Some.field-0-is at c.in-Ok-Some.ensures.found) c.in-Some.ensures

pub returns-in-Ok-None : goal.returns-in-Ok-None
returns-in-Ok-None c =
    stands_none c.args.number c.args.piece.now c.loop-field.rest c.loop-field.invariant
    (empty_begins_none c.loop-field.rest (rw c.in-Ok-None.field-0-is at c.in-Ok-None.ensures.found))

pub returns-in-Err : goal.returns-in-Err
returns-in-Err c =
    stands_none c.args.number c.args.piece.now c.loop-field.rest c.loop-field.invariant
    c.in-Err.ensures.fault.breaks.none
