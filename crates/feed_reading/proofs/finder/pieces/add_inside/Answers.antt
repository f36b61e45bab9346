-- One field further.
use Rattle.feed_reading.proofs.PieceWalks.{goes_on_both, empty_begins_none, gains_all, shorter}
use Rattle.feed_reading.proofs.finder.pieces.add_inside.Goals as goal

pub loop-field-smaller : goal.loop-field-smaller
loop-field-smaller c =
    shorter c.loop-field.rest c.in-Ok-Some.after _ (rw c.in-Ok-Some.field-0-is at c.in-Ok-Some.ensures.found)

pub loop-field-preserved : goal.loop-field-preserved
loop-field-preserved c =
    goes_on_both c.args.number c.args.list.now c.loop-field.list c.add_here.new.list c.args.piece.now
    c.loop-field.rest c.in-Ok-Some.after c.loop-field.invariant c.in_ok-add_here-in-Ok-Some.ensures

pub returns-in-Ok-None : goal.returns-in-Ok-None
returns-in-Ok-None c =
    gains_all c.args.number c.args.list.now c.loop-field.list c.args.piece.now c.loop-field.rest c.loop-field.invariant
    (empty_begins_none c.loop-field.rest (rw c.in-Ok-None.field-0-is at c.in-Ok-None.ensures.found))

pub returns-in-Err : goal.returns-in-Err
returns-in-Err c =
    gains_all c.args.number c.args.list.now c.loop-field.list c.args.piece.now c.loop-field.rest
    c.loop-field.invariant c.in-Err.ensures.fault.breaks.none
