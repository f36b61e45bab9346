-- The data rows of a file, of which the columns that are read are found by name.
use Rattle.std.specs.Prelude.{◌≡◌, ◌≤◌, ⊤, ℕ, Bool, nat_le, List, [], ◌∷◌, map, length, slice_get, unwrap_or, Option, Some, None, Result, Ok, Err, if◌then◌else◌}
use Rattle.std.specs.Bool.{MatchBool}
use Rattle.gw_base.specs.Directory.{IsLonger}
use Rattle.gw_base.specs.Chains.{ok_map}
use Rattle.stop_schedule.specs.Answers.{is_free}
use Rattle.stop_schedule.specs.Columns.{column_name}
use Rattle.stop_schedule.specs.Fields.{field_of}
use Rattle.stop_schedule.specs.Layout.{columns, is_optional}
use Rattle.stop_schedule.specs.Limits.{file_limit}
use Rattle.stop_schedule.specs.RowReader.{RowsLeft}
use Rattle.stop_schedule.specs.Rows.{rows, column}
use Rattle.stop_schedule.specs.declared.column.Column.{Column}
use Rattle.stop_schedule.specs.declared.forms.Form.{Form}
use Rattle.stop_schedule.specs.declared.table_file.TableFile.{TableFile}
use Rattle.stop_schedule.specs.declared.table_fault.TableFault.{TableFault}
use Rattle.stop_schedule.specs.declared.table_fault.TableFault.TheVariants.{TooLong, NoColumn}

-- a data row: the fields of the columns that are read, in their order
abbrev pub Row : Type 0
Row = List (List ℕ)

-- the field of a column at its place, as Places.antt has them
abbrev pub nth : ℕ → Row → List ℕ
nth column row = unwrap_or (slice_get row column) []

-- the fields of a record at these places, without the blanks round them
abbrev pub fields_at : List ℕ → List (List ℕ) → Row
fields_at places fields = map (λ place. field_of place fields) places

-- a place before others, where there is one; a column that may be missing is left out where it is
abbrev pub place_then : TableFile → Column → Option ℕ → Result (List ℕ) TableFault → Result (List ℕ) TableFault
place_then file column None later = if is_optional column then later else Err (NoColumn file column)
place_then file column (Some place) later = ok_map (λ places. place ∷ places) later

-- the places of the columns by the names of the first record, or the first column that it has to name and doesn't
abbrev pub places_of : TableFile → List (List ℕ) → List (Column × Form) → Result (List ℕ) TableFault
places_of file names [] = Ok []
places_of file names (read ∷ later) =
    place_then file read.0 (column (column_name read.0) names) (places_of file names later)

-- the data rows by the records of a file, of which the first names the columns
abbrev pub sheet_of : TableFile → List (List (List ℕ)) → Result (List Row) TableFault
sheet_of file [] = ok_map (λ places. []) (places_of file [] (columns file))
sheet_of file (names ∷ below) = ok_map (λ places. map (fields_at places) below) (places_of file names (columns file))

-- the data rows by the bytes of a file
abbrev pub sheet_in : TableFile → List ℕ → Result (List Row) TableFault
sheet_in file bytes = if nat_le (length bytes) file_limit then sheet_of file (rows bytes) else Err (TooLong file)

-- the rows that are left of what was opened
abbrev pub left_of : Result RowsLeft TableFault → Result (List Row) TableFault
left_of answer = ok_map (λ rows. rows.left) answer

-- the data rows of a file that may not be there; none of one that is not there or has a fault
abbrev pub rows_in : Option (Result (List Row) TableFault) → List Row
rows_in None = []
rows_in (Some (Err fault)) = []
rows_in (Some (Ok rows)) = rows

-- the answer to reading a file, by its bytes in the folder, if it is there, and by those that were read; of a file that
-- is there the fault comes before its rows
abbrev pub GivesFile : Result Bool TableFault → TableFile → Option (List ℕ) → List ℕ → Type 0
GivesFile (Ok there) file found read = MatchBool there ((found ≡ Some read) × (length read ≤ file_limit)) (found ≡ None)
GivesFile (Err fault) file found read = MatchBool (is_free fault) ⊤ ((fault ≡ TooLong file) × IsLonger found file_limit)
