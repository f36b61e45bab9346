-- Which file could not be read: where the files are told, those before it have no fault.
use Rattle.std.specs.Prelude.{◌≡◌, ◌⊎◌, ⊤, List, ℕ, Option, None, Result, Ok, Err}
use Rattle.stop_schedule.specs.Causes.{zone_fault, trip_fault, calendar_fault, frequency_fault}
use Rattle.stop_schedule.specs.Faults.{needed_fault, optional_fault}
use Rattle.stop_schedule.specs.Timetable.{Sheets, ids_in, names_fault, runs_fault, stop_names_fault}
use Rattle.stop_schedule.specs.declared.table_file.TableFile.{TableFile}
use Rattle.stop_schedule.specs.declared.table_file.TableFile.TheVariants.{Agency, Stops, Routes, Trips, Calendar, CalendarDates, Frequencies, StopTimes}
use Rattle.stop_schedule.specs.declared.table_fault.TableFault.{TableFault}
use Rattle.stop_schedule.specs.declared.table_fault.TableFault.TheVariants.{Failed}

-- this holds of the file, if the fault is that a file could not be read
abbrev pub IfFailure : TableFault → (TableFile → Type 0) → Type 0
IfFailure (Failed file) P = P file
IfFailure fault P = ⊤

abbrev pub IfFailed : {T : Type 0} → Result T TableFault → (TableFile → Type 0) → Type 0
IfFailed (Ok found) P = ⊤
IfFailed (Err fault) P = IfFailure fault P

-- it is one of the first files, or these have no fault and it is a later one
abbrev pub OrLater : (TableFile → Type 0) → Option TableFault → (TableFile → Type 0) → TableFile → Type 0
OrLater First fault Later file = First file ⊎ ((fault ≡ None) × Later file)

abbrev pub Is : TableFile → TableFile → Type 0
Is wanted file = file ≡ wanted

abbrev pub NamesFailed : Sheets → TableFile → Type 0
NamesFailed sheets =
    OrLater (Is Agency) (needed_fault Agency zone_fault (sheets Agency))
    (OrLater (Is Stops) (stop_names_fault (sheets Stops)) (Is Routes))

abbrev pub DaysFailed : Sheets → TableFile → Type 0
DaysFailed sheets = OrLater (Is Calendar) (optional_fault Calendar calendar_fault (sheets Calendar)) (Is CalendarDates)

abbrev pub RunsFailed : List (List ℕ) → Sheets → TableFile → Type 0
RunsFailed routes sheets =
    OrLater (Is Trips) (needed_fault Trips (trip_fault routes) (sheets Trips)) (DaysFailed sheets)

abbrev pub StopsFailed : List (List ℕ) → Sheets → TableFile → Type 0
StopsFailed trips sheets =
    OrLater (Is Frequencies) (optional_fault Frequencies (frequency_fault trips) (sheets Frequencies)) (Is StopTimes)

abbrev pub RestFailed : List (List ℕ) → Sheets → TableFile → Type 0
RestFailed routes sheets =
    OrLater (RunsFailed routes sheets) (runs_fault routes sheets) (StopsFailed (ids_in sheets Trips) sheets)

-- the file that could not be read: in the order of reading, those before it have no fault
abbrev pub FileFailed : Sheets → TableFile → Type 0
FileFailed sheets = OrLater (NamesFailed sheets) (names_fault sheets) (RestFailed (ids_in sheets Routes) sheets)
