-- What a clause sees of a buffer that is being written.
use Rattle.std.specs.Prelude.{ℕ, List}

-- the bytes that stand in it, and how many more it takes without memory
pub record Written : Type 0 where
  pub bytes : List ℕ
  pub spare : ℕ
