-- The bytes after the tag begin with the length of the body.
use Rattle.std.proofs.Common.{◌<◌, ◌^◌, length, arith}
use Rattle.feed_writing.specs.Written.{feed_entity}
use Rattle.alert_map.proofs.AlertLemmas.{begins_len, one_number, some_bytes}
use Rattle.alert_map.proofs.entities.entity_body_len.Goals as goal

pub returns : goal.returns
returns c = λ entity is.
    let few : length c.args.bytes.now < 2 ^ 64 = omega arith in
    one_number _ c.in-Some.len (length (feed_entity entity)) c.in-Some.field-0-1.now (feed_entity entity) c.in-Some.ensures.found (begins_len c.args.bytes.now entity is few)

pub unreachable-requires : goal.unreachable-requires
unreachable-requires c = let some : 0 < length c.args.bytes.now = some_bytes c.args.bytes.now c.requires in omega arith

pub unreachable-requires-in-None : goal.unreachable-requires-in-None
unreachable-requires-in-None c =
    let entity = c.requires.0 in
    let few : length c.args.bytes.now < 2 ^ 64 = omega arith in
    c.in-None.ensures.none (length (feed_entity entity)) (feed_entity entity) (begins_len c.args.bytes.now entity c.requires.1 few)
