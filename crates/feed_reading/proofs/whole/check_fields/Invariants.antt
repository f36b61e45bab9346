use Rattle.std.proofs.Common.{◌-◌, ◌≤◌, length, take, List}
use Rattle.wire_fields.specs.Grammar.{WireField, AreFields}
use Rattle.feed_reading.proofs.whole.check_fields.Given as goal

-- the bytes up to here are some list of fields
abbrev pub invariant-loop-field : goal.invariant-loop-field
invariant-loop-field l = record {
  within : l.at ≤ length l.bytes;
  read : (fields : List WireField) × AreFields (take l.at l.bytes) fields;
}

abbrev pub decreases-loop-field : goal.decreases-loop-field
decreases-loop-field l = length l.bytes - l.at
