-- Which file could not be read, by the steps of reading.
use Rattle.std.proofs.Common.{Option, Some, None, Result, Ok, Err}
use Rattle.std.specs.Prelude.{IfSome}
use Rattle.stop_schedule.specs.Failures.{IfFailed, IfFailure}
use Rattle.stop_schedule.specs.declared.table_file.TableFile.{TableFile}
use Rattle.stop_schedule.specs.declared.table_fault.TableFault.{TableFault}
use Rattle.stop_schedule.specs.declared.table_fault.TableFault.TheVariants.{Missing, TooLong, NoColumn, NotUtf8, BadField, Limit, Zones, Unknown, Duplicate, UntimedEnd, Failed, Memory}

-- what holds of the file makes another thing hold
pub if_failure : (fault : TableFault) (P Q : TableFile → Type 0) → ((file : TableFile) → P file → Q file)
    → IfFailure fault P → IfFailure fault Q
if_failure (Missing file) P Q more h = tt
if_failure (TooLong file) P Q more h = tt
if_failure (NoColumn file column) P Q more h = tt
if_failure (NotUtf8 file row) P Q more h = tt
if_failure (BadField file row column) P Q more h = tt
if_failure (Limit file row) P Q more h = tt
if_failure (Zones row) P Q more h = tt
if_failure (Unknown file row column) P Q more h = tt
if_failure (Duplicate file row) P Q more h = tt
if_failure (UntimedEnd row) P Q more h = tt
if_failure (Failed file) P Q more h = more file h
if_failure Memory P Q more h = tt

-- the same where something is told, of which an earlier step told that as well
pub if_later : {A : Type 0} (fault : TableFault) (told : Option A) (N : A → Type 0) (P Q : A → TableFile → Type 0)
    → IfSome told N
    → ((x : A) (file : TableFile) → N x → P x file → Q x file)
    → IfFailure fault (λ file. IfSome told (λ x. P x file)) → IfFailure fault (λ file. IfSome told (λ x. Q x file))
if_later {A} fault told N P Q earlier more h =
    if_failure fault (λ file. IfSome told (λ x. P x file)) (λ file. IfSome told (λ x. Q x file))
    (λ file. by told file earlier) h
  where
    by : (told : Option A) (file : TableFile) → IfSome told N → IfSome told (λ x. P x file)
        → IfSome told (λ x. Q x file)
    by None file n p = tt
    by (Some x) file n p = more x file n p

-- the same of any answer
pub answer_later : {A T : Type 0} (answer : Result T TableFault) (told : Option A) (N : A → Type 0)
    (P Q : A → TableFile → Type 0) → IfSome told N
    → ((x : A) (file : TableFile) → N x → P x file → Q x file)
    → IfFailed answer (λ file. IfSome told (λ x. P x file)) → IfFailed answer (λ file. IfSome told (λ x. Q x file))
answer_later (Ok found) told N P Q earlier more h = tt
answer_later (Err fault) told N P Q earlier more h = if_later fault told N P Q earlier more h
