-- The first fault of a file: its columns, then its rows in order, in a row the causes in order.
use Rattle.std.specs.Prelude.{◌≡◌, ◌≤◌, ◌&&◌, ◌||◌, ◌+◌, ℕ, Bool, true, false, nat_lt, List, [], ◌∷◌, ◌++◌, length, Option, Some, None, Result, Ok, Err, if◌then◌else◌}
use Rattle.std.specs.Option.{option_or}
use Rattle.std.specs.Str.{is_utf8}
use Rattle.stop_schedule.specs.Forms.{fits}
use Rattle.stop_schedule.specs.Layout.{columns}
use Rattle.stop_schedule.specs.Limits.{row_limit}
use Rattle.timetable.specs.Limits.{id_limit}
use Rattle.stop_schedule.specs.Sheet.{Row, nth}
use Rattle.stop_schedule.specs.declared.column.Column.{Column}
use Rattle.stop_schedule.specs.declared.forms.Form.{Form}
use Rattle.stop_schedule.specs.declared.forms.Form.TheVariants.{Id, OptionalId}
use Rattle.stop_schedule.specs.declared.table_file.TableFile.{TableFile}
use Rattle.stop_schedule.specs.declared.table_fault.TableFault.{TableFault}
use Rattle.stop_schedule.specs.declared.table_fault.TableFault.TheVariants.{Missing, NotUtf8, BadField, Limit}

-- a fault where the test holds
abbrev pub fault_if : Bool → TableFault → Option TableFault
fault_if holds fault = if holds then Some fault else None

-- each field, from the column on at which these begin, is UTF-8
abbrev pub all_text : ℕ → List (Column × Form) → Row → Bool
all_text at [] row = true
all_text at (read ∷ later) row = is_utf8 (nth at row) && all_text (at + 1) later row

-- the first column whose field has another form
abbrev pub first_bad : ℕ → List (Column × Form) → Row → Option Column
first_bad at [] row = None
first_bad at (read ∷ later) row = if fits read.1 (nth at row) then first_bad (at + 1) later row else Some read.0

-- a field is an id of more bytes than one has at most
abbrev pub is_long : Form → List ℕ → Bool
is_long Id text = nat_lt id_limit (length text)
is_long OptionalId text = nat_lt id_limit (length text)
is_long form text = false

abbrev pub any_long : ℕ → List (Column × Form) → Row → Bool
any_long at [] row = false
any_long at (read ∷ later) row = is_long read.1 (nth at row) || any_long (at + 1) later row

abbrev pub bad_fault : TableFile → ℕ → Option Column → Option TableFault
bad_fault file number None = None
bad_fault file number (Some column) = Some (BadField file number column)

-- the first fault of the row of that number by its fields and its number alone
abbrev pub common_fault : TableFile → ℕ → Row → Option TableFault
common_fault file number row =
    if all_text 0 (columns file) row
    then option_or (bad_fault file number (first_bad 0 (columns file) row))
    (fault_if (any_long 0 (columns file) row || nat_lt (row_limit file) number) (Limit file number))
    else Some (NotUtf8 file number)

-- the fields have their forms, ids no more bytes and the file no more rows than they may have
pub record Fits (file : TableFile) (number : ℕ) (row : Row) : Type 0 where
  pub texts : all_text 0 (columns file) row ≡ true
  pub forms : first_bad 0 (columns file) row ≡ None
  pub short : any_long 0 (columns file) row ≡ false
  pub counted : number ≤ row_limit file

-- the first fault of a row by the rows before it, where its fields have their forms by these further causes
abbrev pub row_fault : TableFile → (List Row → Row → Option TableFault) → List Row → Row → Option TableFault
row_fault file further before row = option_or (common_fault file (length before + 1) row) (further before row)

-- the first fault of rows that stand after others
abbrev pub first_fault : (List Row → Row → Option TableFault) → List Row → List Row → Option TableFault
first_fault fault before [] = None
first_fault fault before (row ∷ rows) = option_or (fault before row) (first_fault fault (before ++ row ∷ []) rows)

-- the first fault of what is there of a file
abbrev pub fault_in : TableFile → (List Row → Row → Option TableFault) → Result (List Row) TableFault
    → Option TableFault
fault_in file further (Err fault) = Some fault
fault_in file further (Ok rows) = first_fault (row_fault file further) [] rows

-- the first fault of a file that may be absent
abbrev pub optional_fault : TableFile → (List Row → Row → Option TableFault) → Option (Result (List Row) TableFault)
    → Option TableFault
optional_fault file further None = None
optional_fault file further (Some sheet) = fault_in file further sheet

-- and of one that may not
abbrev pub needed_fault : TableFile → (List Row → Row → Option TableFault) → Option (Result (List Row) TableFault)
    → Option TableFault
needed_fault file further None = Some (Missing file)
needed_fault file further (Some sheet) = fault_in file further sheet
