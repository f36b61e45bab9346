-- Counts of faults over several calls.
use Rattle.std.proofs.Common.{ℕ, ◌≤◌, inl, inr, arith}
use Rattle.gw_base.specs.Count.{Rose}

-- a count that rose in the first or the second of two calls rose in both together
pub rose-before : (a b c : ℕ) → Rose a b → b ≤ c → Rose a c
rose-before a b c (inl lt) le = inl (omega arith)
rose-before a b c (inr last) le = inr (omega arith)

pub rose-after : (a b c : ℕ) → a ≤ b → Rose b c → Rose a c
rose-after a b c le (inl lt) = inl (omega arith)
rose-after a b c le (inr last) = inr last
