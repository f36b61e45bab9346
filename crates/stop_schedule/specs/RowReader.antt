-- What a clause sees of rows that are being read.
use Rattle.std.specs.Prelude.{◌≡◌, ◌+◌, ℕ, true, false, List, [], length, Option, Some, None}
use denote.Ref.{Bor}
use Rattle.csv.specs.Reading.{Ready, default_config, has_failed, is_flexible, reader_config, reader_state, reader_trim, records_from, source_of}
use Rattle.csv.specs.declared.parser.State.{State}
use Rattle.csv.specs.declared.reader.Reader.{Reader}
use Rattle.csv.specs.declared.reader.Trim.TheVariants as untrimmed

-- the row at hand, and the rows that are left after it
pub record RowsLeft : Type 0 where
  pub row : List (List ℕ)
  pub left : List (List (List ℕ))

-- the rows that a reader in that state has left to read from these bytes, where they are known
abbrev pub rows_from : State → Option (List ℕ) → List (List (List ℕ))
rows_from state None = []
rows_from state (Some bytes) = records_from default_config (length bytes + 1) state bytes

-- the rows that a reader over a slice has left; none after a read that failed
abbrev pub rows_of : Reader (Bor (List ℕ)) → List (List (List ℕ))
rows_of reader = rows_from (reader_state reader) (source_of (λ slice. Some slice.now) reader)

-- how a reader reads: by the crate's defaults, rows of any length, nothing trimmed, the first row like the others
pub record IsPlain (reader : Reader (Bor (List ℕ))) : Type 0 where
  pub config : reader_config reader ≡ default_config
  pub trim : reader_trim reader ≡ untrimmed.None
  pub flexible : is_flexible reader ≡ true
  pub ready : Ready reader

-- a reader reads so unless a read failed
abbrev pub IsPlainUnlessFailed : Reader (Bor (List ℕ)) → Type 0
IsPlainUnlessFailed reader = has_failed reader ≡ false → IsPlain reader
