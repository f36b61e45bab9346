use Rattle.std.proofs.Common.{◌≡◌, ◌-◌, ◌^◌, ◌<◌, ◌≤◌, ◌++◌, length, take}
use Rattle.wire_fields.specs.Spelling.{seven_bits_each, varint}
use Rattle.wire_fields.proofs.varint.spell_varint.Given as goal

-- the bytes so far and the spelling of the rest are the whole spelling
abbrev pub invariant-loop-rest : goal.invariant-loop-rest
invariant-loop-rest l = record {
  room : length l.bytes ≡ 10;
  few : l.len ≤ 9;
  small : l.rest < 128 ^ (10 - l.len);
  spelled : take l.len l.bytes ++ seven_bits_each (10 - l.len) l.rest ≡ varint l.value;
}

abbrev pub decreases-loop-rest : goal.decreases-loop-rest
decreases-loop-rest l = l.rest
