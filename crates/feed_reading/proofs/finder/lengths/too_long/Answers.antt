-- An entity at the front, after a field, or nowhere.
use Rattle.std.proofs.Common.{refl}
use Rattle.feed_reading.proofs.PieceWalks.{empty_begins_none, shorter}
use Rattle.feed_reading.proofs.LongEntities.{long_in_all, long_in_more, long_first, long_found, long_nowhere}
use Rattle.feed_reading.proofs.finder.lengths.too_long.Goals as goal

pub returns-then-begins_long : goal.returns-then-begins_long
returns-then-begins_long c = long_first c.args.bytes.now c.if-begins_long.ensures

pub loop-field-init : goal.loop-field-init
loop-field-init c = long_in_all c.args.bytes.now _ refl refl c.if-begins_long.ensures

pub loop-field-smaller : goal.loop-field-smaller
loop-field-smaller c =
    shorter c.loop-field.rest c.in-Ok-Some.after _ (rw c.in-Ok-Some.field-0-is at c.in-Ok-Some.ensures.found)

pub loop-field-preserved : goal.loop-field-preserved
loop-field-preserved c =
    long_in_more c.args.bytes.now c.loop-field.rest c.in-Ok-Some.after _ c.loop-field.invariant
    (rw c.in-Ok-Some.field-0-is at c.in-Ok-Some.ensures.found) c.if-begins_long-2.ensures

pub returns-then-begins_long-2 : goal.returns-then-begins_long-2
returns-then-begins_long-2 c =
    long_found c.args.bytes.now c.loop-field.rest c.in-Ok-Some.after _ c.loop-field.invariant
    (rw c.in-Ok-Some.field-0-is at c.in-Ok-Some.ensures.found) c.if-begins_long-2.ensures

pub returns-in-Ok-None : goal.returns-in-Ok-None
returns-in-Ok-None c =
    long_nowhere c.args.bytes.now c.loop-field.rest c.loop-field.invariant
    (empty_begins_none c.loop-field.rest (rw c.in-Ok-None.field-0-is at c.in-Ok-None.ensures.found))

pub returns-in-Err : goal.returns-in-Err
returns-in-Err c =
    long_nowhere c.args.bytes.now c.loop-field.rest c.loop-field.invariant c.in-Err.ensures.fault.breaks.none
