-- What an answer of reading a timetable says of the folder.
use Rattle.std.specs.Prelude.{◌≡◌, Bool, true, false, Option, Some, None, Result, Ok, Err, ⊤}
use Rattle.gw_base.specs.Answers.{UnlessFree}
use Rattle.stop_schedule.specs.declared.table_fault.TableFault.{TableFault}
use Rattle.stop_schedule.specs.declared.table_fault.TableFault.TheVariants.{Failed, Memory}

-- a read that failed and want of memory say nothing of the folder
abbrev pub is_free : TableFault → Bool
is_free (Failed file) = true
is_free Memory = true
is_free fault = false

-- a fault is that a read failed
abbrev pub IsFailure : TableFault → Type 0
IsFailure (Failed file) = ⊤
IsFailure fault = ⊥

-- the answer is that a read failed
abbrev pub HasFailed : {T : Type 0} → Result T TableFault → Type 0
HasFailed (Ok found) = ⊥
HasFailed (Err fault) = IsFailure fault

-- where there is no fault the answer is a value of which this holds, and else the fault
abbrev pub IsFound : {T : Type 0} → Option TableFault → (T → Type 0) → Result T TableFault → Type 0
IsFound fault Holds (Ok value) = (fault ≡ None) × Holds value
IsFound fault Holds (Err told) = fault ≡ Some told

-- the answer is so, unless a free fault comes in its place
abbrev pub Finds : {T : Type 0} → Option TableFault → (T → Type 0) → Result T TableFault → Type 0
Finds fault Holds result = UnlessFree is_free result (IsFound fault Holds)
