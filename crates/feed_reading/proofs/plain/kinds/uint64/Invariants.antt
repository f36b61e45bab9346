use Rattle.std.proofs.Common.{◌≡◌, None, map, drop}
use Rattle.std.specs.List.{last_or}
use Rattle.wire_fields.specs.Seen.{field_of}
use Rattle.feed_reading.specs.Meaning.{numbers}
use Rattle.feed_reading.proofs.plain.kinds.uint64.Given as goal

-- the last number so far, where none follows, is the last of all
abbrev pub invariant-loop-field : goal.invariant-loop-field
invariant-loop-field l = last_or l.last (numbers l.number (map field_of (drop l.field-index l.fields)))
    ≡ last_or None (numbers l.number (map field_of l.fields))
