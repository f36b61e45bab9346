use Rattle.std.proofs.Common.{◌-◌, ◌≤◌, length, take, List}
use Rattle.wire_fields.specs.Grammar.{WireField, AreFields}
use Rattle.feed_reading.proofs.quick.nested.read_parts.Given as goal

-- the parts are what is known after the fields up to here
abbrev pub invariant-loop-parts : goal.invariant-loop-parts
invariant-loop-parts g l = record {
  within : l.at ≤ length l.bytes;
  read : (fields : List WireField) × AreFields (take l.at l.bytes) fields × g.P.Parts.after fields l.parts;
}

abbrev pub decreases-loop-parts : goal.decreases-loop-parts
decreases-loop-parts g l = length l.bytes - l.at
