-- The range of moments.
use Rattle.std.specs.Prelude.{Bool, ◌&&◌, ℤ, pos, ◌≤ℤ◌, int_le}
use Rattle.gw_base.specs.Limits.{last_moment}

-- seconds since 1970 that are a moment: from 1970-01-01T00:00:00Z to the last one
abbrev pub IsMoment : ℤ → Type 0
IsMoment secs = (pos 0 ≤ℤ secs) × (secs ≤ℤ pos last_moment)

-- the same as a test, for the definitions that compute
abbrev pub is_moment : ℤ → Bool
is_moment secs = int_le (pos 0) secs && int_le secs (pos last_moment)
