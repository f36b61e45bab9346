-- What the devices of the machine show. No definition of what is published cites it.
use Rattle.std.specs.Prelude.{◌≡◌, ◌⊎◌, ℕ, List, Option}
use Rattle.std_io.specs.declared.io.kind.ErrorKind.{ErrorKind}
use Rattle.std_io.specs.declared.io.kind.ErrorKind.TheVariants.{NotADirectory, NotFound}

-- a stream: what it holds, as far as std says it, and the count of its faults
pub record Stream : Type 0 where
  pub held : Option (List ℕ)
  pub faults : ℕ

-- a file isn't there: it isn't found, or a part of its path is no folder. A file that may not be read is there
abbrev pub IsAbsent : ErrorKind → Type 0
IsAbsent kind = (kind ≡ NotFound) ⊎ (kind ≡ NotADirectory)
