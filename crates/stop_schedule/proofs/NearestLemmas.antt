-- The nearest stop with times.
use Rattle.std.proofs.Common.{◌+◌, ℕ, Option, Some, None}

-- what is found after so many stops without times
abbrev pub further : ℕ → Option (ℕ × (ℕ × ℕ)) → Option (ℕ × (ℕ × ℕ))
further away None = None
further away (Some found) = Some (away + found.0, found.1)
