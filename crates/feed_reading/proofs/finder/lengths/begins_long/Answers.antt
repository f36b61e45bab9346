-- The bytes begin with one number, and after it with one.
use Rattle.feed_reading.specs.Limits.{entity_limit}
use Rattle.feed_reading.specs.Found.{IsLongHere}
use Rattle.feed_reading.proofs.LongEntities.{other_tag, no_tag, no_size, short_size, long_size, match_lt}
use Rattle.feed_reading.proofs.finder.lengths.begins_long.Goals as goal

pub returns-then-tag-ne-ENTITY_TAG : goal.returns-then-tag-ne-ENTITY_TAG
returns-then-tag-ne-ENTITY_TAG c =
    other_tag c.args.piece.now.bytes.now c.in-Some.rest.now c.in-Some.tag c.in-Some.ensures.found
    c.if-tag-ne-ENTITY_TAG.true

pub returns-in-Some-first_number : goal.returns-in-Some-first_number
returns-in-Some-first_number c =
    let bytes = c.args.piece.now.bytes.now in
    let rest = c.in-Some.rest.now in
    let tag = c.in-Some.tag in
    let len = c.in-Some-first_number.len in
    let after = c.in-Some-first_number._after.now in
    match_lt entity_limit len (IsLongHere bytes) (¬ IsLongHere bytes)
    (long_size bytes rest after tag len c.in-Some.ensures.found c.in-Some-first_number.ensures.found
    c.if-tag-ne-ENTITY_TAG.false)
    (short_size bytes rest after tag len c.in-Some.ensures.found c.in-Some-first_number.ensures.found)

pub returns-in-None-first_number : goal.returns-in-None-first_number
returns-in-None-first_number c =
    no_size c.args.piece.now.bytes.now c.in-Some.rest.now c.in-Some.tag c.in-Some.ensures.found
    c.in-None-first_number.ensures.none

pub returns-in-None : goal.returns-in-None
returns-in-None c = no_tag c.args.piece.now.bytes.now c.in-None.ensures.none
