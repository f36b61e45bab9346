-- The texts of the folder's faults.
use Rattle.std.specs.Prelude.{ℕ, List, ◌++◌, codes, decimal}
use Rattle.stop_schedule.specs.Columns.{column_name}
use Rattle.stop_schedule.specs.Timetable.{path_of, file_name}
use Rattle.stop_schedule.specs.declared.column.Column.{Column}
use Rattle.stop_schedule.specs.declared.table_fault.TableFault.{TableFault}
use Rattle.stop_schedule.specs.declared.table_fault.TableFault.TheVariants.{Missing, TooLong, NoColumn, NotUtf8, BadField, Limit, Zones, Unknown, Duplicate, UntimedEnd, Failed, Memory}
use Rattle.file_commands.specs.Exits.{missing}
use Rattle.file_commands.specs.declared.exit.Exit.{Exit}
use Rattle.file_commands.specs.declared.exit.Exit.TheVariants as exit

-- a number after a space, and a column's name
abbrev pub row_text : ℕ → List ℕ
row_text row = codes " " ++ decimal row

abbrev pub column_text : Column → List ℕ
column_text column = codes " " ++ column_name column

-- the end that a fault of the folder is: a missing file with the path that was asked for, and else the fault's name,
-- its file, its row and its column, so far as it has them
abbrev pub folder_end : List ℕ → TableFault → Exit
folder_end dir (Missing file) = missing (path_of dir file)
folder_end dir (TooLong file) = exit.Refused (codes "TooLong " ++ file_name file)
folder_end dir (NoColumn file column) = exit.Refused (codes "NoColumn " ++ file_name file ++ column_text column)
folder_end dir (NotUtf8 file row) = exit.Refused (codes "NotUtf8 " ++ file_name file ++ row_text row)
folder_end dir (BadField file row column) =
    exit.Refused (codes "BadField " ++ file_name file ++ row_text row ++ column_text column)
folder_end dir (Limit file row) = exit.Refused (codes "Limit " ++ file_name file ++ row_text row)
folder_end dir (Zones row) = exit.Refused (codes "Zones" ++ row_text row)
folder_end dir (Unknown file row column) =
    exit.Refused (codes "Unknown " ++ file_name file ++ row_text row ++ column_text column)
folder_end dir (Duplicate file row) = exit.Refused (codes "Duplicate " ++ file_name file ++ row_text row)
folder_end dir (UntimedEnd row) = exit.Refused (codes "UntimedEnd" ++ row_text row)
folder_end dir (Failed file) = exit.Failed
folder_end dir Memory = exit.Memory
