use Rattle.std.proofs.Common.{◌≡◌, ℕ, ◌+◌, ◌^◌, ◌<◌, ◌≤◌, ◌++◌, length}
use Rattle.wire_fields.specs.Spelling.{seven_bits_each, varint}
use Rattle.wire_fields.proofs.writing.put_each.Given as goal

-- what is written and the spelling of the rest are the whole spelling, and there is room for it
abbrev pub invariant-loop-rest : goal.invariant-loop-rest
invariant-loop-rest l = (left : ℕ) × (l.rest < 128 ^ left) × (1 ≤ left)
    × (l.buf.bytes ++ seven_bits_each left l.rest ≡ l.initial.buf.bytes ++ varint l.value)
    × (length (seven_bits_each left l.rest) ≤ l.buf.spare)
    × (l.buf.spare + length (varint l.value) ≡ l.initial.buf.spare + length (seven_bits_each left l.rest))

abbrev pub decreases-loop-rest : goal.decreases-loop-rest
decreases-loop-rest l = l.rest
