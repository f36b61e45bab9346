use Rattle.std.proofs.Common.{◌≡◌, ℕ, List, ◌++◌, ◌+◌, ◌-◌, ◌≤◌, length, take}
use Rattle.wire_fields.specs.TopReading.{StandsFor, IsInNoField}
use Rattle.wire_fields.proofs.Tops.{Goes}
use Rattle.wire_fields.proofs.top.reader.TopReader.read_on.Given as goal

-- the bytes up to here were used, and no field of the top level ended or had its length
abbrev pub invariant-loop-used : goal.invariant-loop-used
invariant-loop-used l = record {
  within : l.used ≤ length l.piece;
  taken : l.self.taken ≡ l.initial.self.taken + l.used;
  goes : (bytes : List ℕ) → IsInNoField l.initial.self → StandsFor l.initial.self bytes → Goes l.initial.self l.self l.used (bytes ++ take l.used l.piece);
}

abbrev pub decreases-loop-used : goal.decreases-loop-used
decreases-loop-used l = length l.piece - l.used
