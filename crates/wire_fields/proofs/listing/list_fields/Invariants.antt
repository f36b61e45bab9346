use Rattle.std.proofs.Common.{◌-◌, ◌≤◌, length, take, map}
use Rattle.wire_fields.specs.Grammar.{AreFields}
use Rattle.wire_fields.specs.Seen.{field_of}
use Rattle.wire_fields.proofs.listing.list_fields.Given as goal

-- the bytes up to here are the fields so far
abbrev pub invariant-loop-fields : goal.invariant-loop-fields
invariant-loop-fields l = record {
  within : l.at ≤ length l.bytes;
  read : AreFields (take l.at l.bytes) (map field_of l.fields);
}

abbrev pub decreases-loop-fields : goal.decreases-loop-fields
decreases-loop-fields l = length l.bytes - l.at
