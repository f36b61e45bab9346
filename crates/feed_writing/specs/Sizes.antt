-- How long what is written is, and what a buffer holds after it.
use Rattle.std.specs.Prelude.{◌≡◌, ℕ, ◌+◌, ◌-◌, ◌^◌, min, List, ◌++◌, length}
use Rattle.gw_base.specs.Written.{Written}

-- how many bytes there are, or the greatest number of 64 bits where there are more
pub record Counts (count : ℕ) (bytes : List ℕ) : Type 0 where
  pub same : count ≡ min (length bytes) (2 ^ 64 - 1)

-- the bytes stand after what stood in the buffer, and their room is taken
pub record Appends (old new : Written) (bytes : List ℕ) : Type 0 where
  pub joined : new.bytes ≡ old.bytes ++ bytes
  pub room : new.spare + length bytes ≡ old.spare
