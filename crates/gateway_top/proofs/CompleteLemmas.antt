-- How a run ends in which no device failed, over files without a stated fault.
use Rattle.std.proofs.Common.{◌≡◌, ◌⊎◌, ℕ, List, Option, Some, None, Result, Ok, Err, IfSome, inl, inr, refl}
use Rattle.gw_base.specs.Answers.{UnlessFree}
use Rattle.gw_base.specs.Changes.{Change}
use Rattle.gateway_core.specs.Arrivals.{Arrival}
use Rattle.gateway_core.specs.declared.setting.Setting.{Setting}
use Rattle.gateway_durable.specs.Reopening.{RefusesFile}
use Rattle.gateway_durable.specs.declared.reopen_fault.ReopenFault.{ReopenFault}
use Rattle.gateway_durable.specs.declared.reopen_fault.ReopenFault.TheVariants as why
use Rattle.command_words.specs.Words.{Serve, Task, board_task, gtfsrt_task, make_task, show_task, siri_task, sx_task}
use Rattle.file_commands.specs.Done.{Done}
use Rattle.file_commands.specs.Exits.{is_free, status_of, text_of}
use Rattle.file_commands.specs.Samples.{IsMakeWork}
use Rattle.file_commands.specs.Tasks.{IsTaskWork, OverFiles}
use Rattle.file_commands.specs.Work.{Directory, IsBoardWork, IsSettingOf, IsShowWork, IsToGtfsrtWork, IsToSiriSxWork, IsToSiriWork}
use Rattle.file_commands.specs.declared.exit.Exit.{Exit}
use Rattle.file_commands.specs.declared.exit.Exit.TheVariants.{Failed, Memory, Missing, Refused}
use Rattle.gateway_top.specs.Keeping.{EndsKeeping, EndsKept, EndsUnopened, Opens, RunsKept, reopen_end}
use Rattle.gateway_top.specs.Runs.{Doorway, Ends, EndsServer, EndsServing, EndsWell, HasFailed, HasNoFault, RunsServer, RunsTask, TellsEnd}

-- ---- a command that writes its result and ends

module _ (ended : ℕ) (files : Change Directory) (out err : Change (List ℕ)) (answer : Result Done Exit) (cause : answer ≡ Err Failed → HasFailed files) (ends : Ends answer ended out err)
    (calm : ¬ HasFailed files) (puts : ¬ HasFailed out) (tells : ¬ HasFailed err) where
  well : (Work : Result Done Exit → Type 0) → UnlessFree is_free answer Work → HasNoFault Work → (ended ≡ 0) ⊎ (ended ≡ 71)
  well Work work none = by answer cause ends work
    where
      neither : HasFailed out ⊎ HasFailed err → ⊥
      neither (inl failed) = puts failed
      neither (inr failed) = tells failed

      by : (answer : Result Done Exit) → (answer ≡ Err Failed → HasFailed files) → Ends answer ended out err → UnlessFree is_free answer Work → (ended ≡ 0) ⊎ (ended ≡ 71)
      by (Ok done) cause (inl whole) work = inl whole.status_is
      by (Ok done) cause (inr cut) work = absurd (neither cut.cause)
      by (Err (Refused text)) cause ends work = absurd (none (Refused text) refl work)
      by (Err (Missing text)) cause ends work = absurd (none (Missing text) refl work)
      by (Err Failed) cause ends work = absurd (calm (cause refl))
      by (Err Memory) cause ends work = inr ends.0.status_is

  well_over : (told : Option Directory) (Work : Directory → Result Done Exit → Type 0) → IfSome told (λ f. UnlessFree is_free answer (Work f))
      → IfSome told (λ f. HasNoFault (Work f) → (ended ≡ 0) ⊎ (ended ≡ 71))
  well_over None Work work = tt
  well_over (Some f) Work work = well (Work f) work

  task_well : (task : Task) → OverFiles task files.before (λ told. UnlessFree is_free answer (IsTaskWork task told))
      → OverFiles task files.before (λ told. HasNoFault (IsTaskWork task told) → (ended ≡ 0) ⊎ (ended ≡ 71))
  task_well (gtfsrt_task command) work = well_over files.before (IsToGtfsrtWork command) work
  task_well (siri_task command) work = well_over files.before (IsToSiriWork command) work
  task_well (sx_task command) work = well_over files.before (IsToSiriSxWork command) work
  task_well (show_task command) work = well_over files.before (IsShowWork command) work
  task_well (board_task command) work = well_over files.before (IsBoardWork command) work
  task_well (make_task command) work = well (IsMakeWork command) work

pub runs_task : (task : Task) (ended : ℕ) (files : Change Directory) (out err : Change (List ℕ)) (answer : Result Done Exit)
    → OverFiles task files.before (λ told. UnlessFree is_free answer (IsTaskWork task told)) → (answer ≡ Err Failed → HasFailed files) → Ends answer ended out err
    → RunsTask task ended files out err
runs_task task ended files out err answer work cause ends = record {
  answer = answer;
  work = work;
  cause = cause;
  ends = ends;
  completes = λ calm puts tells. task_well ended files out err answer cause ends calm puts tells task work;
}

-- ---- a server

server_well : (command : Serve) (past : List Arrival) (ended : ℕ) (files : Change Directory) (err : Change (List ℕ)) (doorway : Doorway) (answer : Result Setting Exit) (told : Option Directory)
    → IfSome told (λ f. UnlessFree is_free answer (IsSettingOf command.scope (Some command.keep) f)) → (answer ≡ Err Failed → HasFailed files) → EndsServer command past answer ended err doorway
    → ¬ HasFailed files → ¬ HasFailed doorway.output
    → IfSome told (λ f. HasNoFault (IsSettingOf command.scope (Some command.keep) f) → EndsWell ended doorway)
server_well command past ended files err doorway answer None work cause ends calm opens = tt
server_well command past ended files err doorway (Ok setting) (Some f) work cause ends calm opens = λ none. by ends.0
  where
    by : EndsServing setting past ended err doorway → EndsWell ended doorway
    by (inl done) = inl done.0
    by (inr failed) = absurd (opens failed.0)
server_well command past ended files err doorway (Err (Refused text)) (Some f) work cause ends calm opens = λ none. absurd (none (Refused text) refl work)
server_well command past ended files err doorway (Err (Missing text)) (Some f) work cause ends calm opens = λ none. absurd (none (Missing text) refl work)
server_well command past ended files err doorway (Err Failed) (Some f) work cause ends calm opens = λ none. absurd (calm (cause refl))
server_well command past ended files err doorway (Err Memory) (Some f) work cause ends calm opens = λ none. inr (ends.0.status_is, ends.1)

pub runs_server : (command : Serve) (past : List Arrival) (ended : ℕ) (files : Change Directory) (err : Change (List ℕ)) (doorway : Doorway) (answer : Result Setting Exit)
    → IfSome files.before (λ told. UnlessFree is_free answer (IsSettingOf command.scope (Some command.keep) told)) → (answer ≡ Err Failed → HasFailed files) → EndsServer command past answer ended err doorway
    → RunsServer command past ended files err doorway
runs_server command past ended files err doorway answer work cause ends = record {
  answer = answer;
  work = work;
  cause = cause;
  ends = ends;
  completes = server_well command past ended files err doorway answer files.before work cause ends;
}

-- ---- a server with a journal

-- a journal that is opened isn't refused for what its file is
unopened_well : (command : Serve) (told : Directory) (file : List ℕ) (setting : Setting) (disk : Change (List ℕ)) (ended : ℕ) (err : Change (List ℕ)) (doorway : Doorway)
    → IsSettingOf command.scope (Some command.keep) told (Ok setting) → disk.before ≡ Some file → Opens command told file → ¬ HasFailed disk
    → EndsUnopened setting disk ended err doorway → EndsWell ended doorway
unopened_well command told file setting disk ended err doorway work here opens sound unopened =
    by unopened.why (unopened.refused file here) unopened.cause unopened.ends
  where
    by : (cause : ReopenFault) → RefusesFile setting file cause → (cause ≡ why.Disk → HasFailed disk) → TellsEnd (status_of (reopen_end cause)) (text_of (reopen_end cause)) ended err → EndsWell ended doorway
    by why.Disk refuses cause ends = absurd (sound (cause refl))
    by why.NotJournal refuses cause ends = absurd (opens setting work why.NotJournal refl refuses)
    by (why.Damaged at) refuses cause ends = absurd (opens setting work (why.Damaged at) refl refuses)
    by (why.Replay n) refuses cause ends = absurd (opens setting work (why.Replay n) refl refuses)
    by why.Memory refuses cause ends = inr (ends.status_is, unopened.uncalled)

kept_well : (command : Serve) (disk : Change (List ℕ)) (ended : ℕ) (files : Change Directory) (err : Change (List ℕ)) (doorway : Doorway) (answer : Result Setting Exit) (told : Option Directory)
    → IfSome told (λ f. UnlessFree is_free answer (IsSettingOf command.scope (Some command.keep) f)) → (answer ≡ Err Failed → HasFailed files) → EndsKept command disk answer ended err doorway
    → ¬ HasFailed files → ¬ HasFailed doorway.output → ¬ HasFailed disk
    → IfSome told (λ f. HasNoFault (IsSettingOf command.scope (Some command.keep) f) → (file : List ℕ) → disk.before ≡ Some file → Opens command f file → EndsWell ended doorway)
kept_well command disk ended files err doorway answer None work cause ends calm serves sound = tt
kept_well command disk ended files err doorway (Ok setting) (Some f) work cause (inl unopened) calm serves sound = λ none file here opens.
    unopened_well command f file setting disk ended err doorway work here opens sound unopened
kept_well command disk ended files err doorway (Ok setting) (Some f) work cause (inr served) calm serves sound = λ none file here opens. by served.ends
  where
    by : EndsKeeping setting served.past disk ended err doorway → EndsWell ended doorway
    by (inl done) = inl done.0
    by (inr (inl failed)) = absurd (serves failed.0)
    by (inr (inr failed)) = absurd (sound failed.0)
kept_well command disk ended files err doorway (Err (Refused text)) (Some f) work cause ends calm serves sound = λ none file here opens. absurd (none (Refused text) refl work)
kept_well command disk ended files err doorway (Err (Missing text)) (Some f) work cause ends calm serves sound = λ none file here opens. absurd (none (Missing text) refl work)
kept_well command disk ended files err doorway (Err Failed) (Some f) work cause ends calm serves sound = λ none file here opens. absurd (calm (cause refl))
kept_well command disk ended files err doorway (Err Memory) (Some f) work cause ends calm serves sound = λ none file here opens. inr (ends.0.status_is, ends.1)

pub runs_kept : (command : Serve) (disk : Change (List ℕ)) (ended : ℕ) (files : Change Directory) (err : Change (List ℕ)) (doorway : Doorway) (answer : Result Setting Exit)
    → IfSome files.before (λ told. UnlessFree is_free answer (IsSettingOf command.scope (Some command.keep) told)) → (answer ≡ Err Failed → HasFailed files) → EndsKept command disk answer ended err doorway
    → RunsKept command disk ended files err doorway
runs_kept command disk ended files err doorway answer work cause ends = record {
  answer = answer;
  work = work;
  cause = cause;
  ends = ends;
  completes = kept_well command disk ended files err doorway answer files.before work cause ends;
}
