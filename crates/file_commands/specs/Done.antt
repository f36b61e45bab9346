-- What a command writes.
use Rattle.std.specs.Prelude.{ℕ, List}

-- for standard output, and for standard error afterwards
pub record Done : Type 0 where
  pub out : List ℕ
  pub err : List ℕ
