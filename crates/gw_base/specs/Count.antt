-- The counts of faults of the objects of the outside.
use Rattle.std.specs.Prelude.{ℕ, ◌+◌, ◌<◌, ◌≤◌, ◌⊎◌, min}

-- the last value of a counter of 64 bits, at which it stands still
abbrev pub last_count : ℕ
last_count = 18446744073709551615

-- a count rose between two moments: it is greater than it was, or it stands at its last value
abbrev pub Rose : ℕ → ℕ → Type 0
Rose before now = (before < now) ⊎ (last_count ≤ now)

-- the count after one more fault
abbrev pub counted : ℕ → ℕ
counted faults = min (faults + 1) last_count

-- a count over a call: it never falls, and it rose where the call answered so
pub record Counts (Failed : Type 0) (before now : ℕ) : Type 0 where
  pub cause : Failed → Rose before now
  pub never_falls : before ≤ now
