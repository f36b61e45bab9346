-- What reading a file of a folder answers.
use Rattle.std.specs.Prelude.{◌≡◌, Bool, List, Option, Result, is_some, option_map, ⊤}
use Rattle.gw_base.specs.Answers.{UnlessFree}
use Rattle.gw_base.specs.Chains.{ok_map}
use Rattle.stop_schedule.specs.Answers.{Finds, is_free}
use Rattle.stop_schedule.specs.Faults.{optional_fault, needed_fault}
use Rattle.stop_schedule.specs.Sheet.{Row, rows_in}
use Rattle.timetable.specs.Seen.{seen}
use Rattle.timetable.specs.Table.{Table}
use Rattle.stop_schedule.specs.Timetable.{Sheets, table_of, untimed_in}
use Rattle.timetable.specs.declared.timetable.Timetable.{Timetable}
use Rattle.stop_schedule.specs.declared.table_fault.TableFault.TheVariants.{UntimedEnd, Memory}
use Rattle.stop_schedule.specs.declared.table_file.TableFile.{TableFile}
use Rattle.stop_schedule.specs.declared.table_fault.TableFault.{TableFault}

-- of a file that may be absent: its rows are held, or its first fault is told
abbrev pub ReadsRows : {T : Type 0} → TableFile → (List Row → Row → Option TableFault) → (T → List Row → Type 0)
    → Sheets → Result T TableFault → Type 0
ReadsRows file further Holds sheets result =
    Finds (optional_fault file further (sheets file)) (λ found. Holds found (rows_in (sheets file))) result

-- of a file that has to be there
abbrev pub ReadsNeeded : {T : Type 0} → TableFile → (List Row → Row → Option TableFault) → (T → List Row → Type 0)
    → Sheets → Result T TableFault → Type 0
ReadsNeeded file further Holds sheets result =
    Finds (needed_fault file further (sheets file)) (λ found. Holds found (rows_in (sheets file))) result

-- whether it is there, and its rows are held
abbrev pub FindsFile : TableFile → (List Row → Row → Option TableFault) → (List Row → Type 0) → Sheets
    → Result Bool TableFault → Type 0
FindsFile file further Holds sheets result =
    Finds (optional_fault file further (sheets file))
    (λ there. (there ≡ is_some (sheets file)) × Holds (rows_in (sheets file))) result

-- the fault comes after all files: an end without times, or want of memory
abbrev pub IsAssembled : TableFault → Type 0
IsAssembled (UntimedEnd row) = ⊤
IsAssembled Memory = ⊤
IsAssembled fault = ⊥

-- what comes after all files: the timetable, or else the least row of an end without times
abbrev pub Assembles : Sheets → Result Timetable TableFault → Type 0
Assembles sheets result =
    Finds (option_map UntimedEnd (untimed_in sheets)) (λ table. seen table ≡ table_of sheets) result

-- an answer says what a folder means: its timetable, or its first fault
abbrev pub Reads : Result Table TableFault → Result Timetable TableFault → Type 0
Reads meaning result = UnlessFree is_free result (λ answer. meaning ≡ ok_map seen answer)
