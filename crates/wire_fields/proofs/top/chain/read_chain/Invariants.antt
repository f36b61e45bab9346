use Rattle.std.proofs.Common.{ℕ, List, ◌++◌, ◌+◌, ◌-◌, ◌≤◌, length, take}
use Rattle.wire_fields.specs.TopReading.{IsBegun}
use Rattle.wire_fields.proofs.Chains.{IsScanned}
use Rattle.wire_fields.proofs.top.chain.read_chain.Given as goal

abbrev pub invariant-loop-i : goal.invariant-loop-i
invariant-loop-i l = record {
  within : l.i ≤ l.chain.count + length l.bytes;
  scanned : (begun : List ℕ) → IsBegun l.chain begun → IsScanned l.i l.value (begun ++ take (l.i - l.chain.count) l.bytes);
}
