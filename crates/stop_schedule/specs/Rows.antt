-- The bytes of a table as rows, of which the first names the columns (GTFS Schedule reference, file requirements).
use Rattle.std.specs.Prelude.{ℕ, List, Option, position}
use Rattle.std.specs.Str.{bytes_eq}
use Rattle.csv.specs.Reading.{default_config, records, strip_bom}
use Rattle.stop_schedule.specs.Fields.{trimmed}

-- the records of comma separated, quoted fields that stand after one byte order mark, if there is one
abbrev pub rows : List ℕ → List (List (List ℕ))
rows bytes = records default_config (strip_bom bytes)

-- the place of the first column of that name, by the trimmed names of the first row
abbrev pub column : List ℕ → List (List ℕ) → Option ℕ
column name names = position (λ named. bytes_eq (trimmed named) name) names
