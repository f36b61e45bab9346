use Rattle.std.proofs.Common.{◌≡◌, ◌++◌, map, drop}
use Rattle.wire_fields.specs.Seen.{field_of}
use Rattle.feed_reading.specs.Meaning.{bodies}
use Rattle.feed_reading.proofs.plain.kinds.bodies.Given as goal

-- the bodies so far, and those that follow, are all
abbrev pub invariant-loop-field : goal.invariant-loop-field
invariant-loop-field l = map (λ body. body.now) l.list ++ bodies l.number (map field_of (drop l.field-index l.fields))
    ≡ bodies l.number (map field_of l.fields)
