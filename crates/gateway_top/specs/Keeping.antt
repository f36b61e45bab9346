-- How a run of `serve` with a journal ends, in which each body is on a disk before it is acknowledged; and what a crash
-- leaves of that disk.
use Rattle.std.specs.Prelude.{◌≡◌, ◌≤◌, ◌⊎◌, ◌++◌, ℕ, List, [], ◌∷◌, codes, decimal, length, take, false, true, Option, Some, None, Result, Ok, Err, IfSome}
use Rattle.gw_base.specs.Answers.{UnlessFree}
use Rattle.gw_base.specs.Chains.{ok_map}
use Rattle.gw_base.specs.Changes.{Change}
use Rattle.gw_base.specs.Connections.{Beside, Connections}
use Rattle.gw_base.specs.declared.door.Entry.{Entry}
use Rattle.delivery_journal.specs.Disk.{Survives, WhereTold}
use Rattle.delivery_journal.specs.Kept.{KeptBody, kept, place_after}
use Rattle.gateway_core.specs.Arrivals.{Arrival}
use Rattle.gateway_core.specs.declared.setting.Setting.{Setting}
use Rattle.gateway_durable.specs.Reopening.{RefusesFile}
use Rattle.gateway_durable.specs.Replays.{Replays}
use Rattle.gateway_durable.specs.declared.reopen_fault.ReopenFault.{ReopenFault}
use Rattle.gateway_durable.specs.declared.reopen_fault.ReopenFault.TheVariants.{Damaged, Disk, Memory, NotJournal, Replay}
use Rattle.gateway_server.specs.Completeness.{CompletesBy}
use Rattle.gateway_server.specs.Durable.{journal_room}
use Rattle.gateway_server.specs.Past.{IsLawfulAfter, LeavesPast, Past, is_unkept}
use Rattle.gateway_server.specs.Serving.{CountsCausesAfter, Tells}
use Rattle.file_commands.specs.Exits.{is_free, status_of, text_of}
use Rattle.gateway_top.specs.Headline.{HeadlineBy, Shows}
use Rattle.gateway_top.specs.Published.{IsSetting}
use Rattle.gateway_top.specs.Runs.{Doorway, EndsWell, GotNothing, HasFailed, HasNoFault, IsCarriedOut, IsServing, IsTurnedAway, IsUncalled, Outside, TellsEnd}
use Rattle.gateway_top.specs.Serving.{HasLogged, ServedBy}
use Rattle.file_commands.specs.Work.{Directory, IsSettingOf}
use Rattle.command_words.specs.Words.{IsJobWith, Serve, serve_job, with_journal}
use Rattle.file_commands.specs.declared.exit.Exit as exits
use Rattle.file_commands.specs.declared.exit.Exit.TheVariants as exit

-- how a run ends whose journal isn't opened again
abbrev pub reopen_end : ReopenFault → exits.Exit
reopen_end Disk = exit.Failed
reopen_end NotJournal = exit.Refused (codes "NotJournal")
reopen_end (Damaged at) = exit.Refused (codes "Damaged " ++ decimal at)
reopen_end (Replay n) = exit.Refused (codes "Replay " ++ decimal n)
reopen_end Memory = exit.Memory

-- what there is before the first connection of a server whose journal's file had these bytes: what the bodies give that
-- it holds, taken one after the other over the setting; and the place at which they end
pub record BeginsWith (setting : Setting) (file : List ℕ) (past : Past) : Type 0 where
  pub bodies : List KeptBody
  pub holds : kept file ≡ Ok bodies
  pub end : past.end ≡ place_after bodies
  pub replays : Replays setting [] bodies past.arrivals

-- an entry that keeping its body failed is the last one
abbrev pub EndsUnkept : List Entry → Type 0
EndsUnkept entries =
    (before : List Entry) × (last : Entry) × (entries ≡ before ++ last ∷ []) × (is_unkept last.mark ≡ true)

-- the journal isn't opened again, for this cause, and neither door nor clock was called
pub record EndsUnopened (setting : Setting) (disk : Change (List ℕ)) (ended : ℕ) (err : Change (List ℕ))
    (doorway : Doorway) : Type 0 where
  pub why : ReopenFault
  pub refused : WhereTold disk.before (λ file. RefusesFile setting file why)
  pub cause : why ≡ Disk → HasFailed disk
  pub ends : TellsEnd (status_of (reopen_end why)) (text_of (reopen_end why)) ended err
  pub uncalled : IsUncalled doorway

-- the faults at a door that tells its connections: those of its entries, and so many besides
abbrev pub CountsKeptFaults : Setting → Past → Change (List ℕ) → ℕ → Doorway → Type 0
CountsKeptFaults setting past disk besides doorway =
    (told : Connections) → Tells doorway.output.before doorway.before told
    → (entries : List Entry) (left : Connections) → HasLogged told doorway.now entries left
    → CountsCausesAfter (HasFailed disk) journal_room setting past entries besides doorway.output.faults_before
    doorway.output.faults_now doorway.clock.faults_before doorway.clock.faults_now

-- a server whose connections came to an end: with status 0 and nothing told; with 74 where its door failed, which is
-- one fault besides those of the connections; or with 74 where its disk failed, and then the last entry is Unkept
abbrev pub EndsKeeping : Setting → Past → Change (List ℕ) → ℕ → Change (List ℕ) → Doorway → Type 0
EndsKeeping setting past disk ended err doorway =
    ((ended ≡ 0) × GotNothing err × CountsKeptFaults setting past disk 0 doorway)
    ⊎ (HasFailed doorway.output × TellsEnd 74 (codes "failed") ended err × CountsKeptFaults setting past disk 1 doorway)
    ⊎ (HasFailed disk × TellsEnd 74 (codes "failed") ended err × CountsKeptFaults setting past disk 0 doorway
    × ((told : Connections) → Tells doorway.output.before doorway.before told
    → (entries : List Entry) (left : Connections) → HasLogged told doorway.now entries left → EndsUnkept entries))

-- an entry that is lawful after what there was before it, and whose connection takes what is well formed and shows what
-- is asked for, where there is no cause for a shorter output nor for a body that isn't kept, and the body isn't full
abbrev pub IsWholeAfter : Type 0 → Type 0 → Setting → Past → Entry → Type 0
IsWholeAfter Cause Unkept setting past entry =
    IsLawfulAfter Cause Unkept journal_room setting past entry
    × CompletesBy Cause Unkept (λ body. journal_room.is_full past.end (length body)) setting past.arrivals entry

-- the journal was opened again, and connections were served after what its bodies gave
pub record EndsServed (command : Serve) (setting : Setting) (disk : Change (List ℕ)) (ended : ℕ) (err : Change (List ℕ))
    (doorway : Doorway) : Type 0 where
  pub past : Past
  pub begins : WhereTold disk.before (λ file. BeginsWith setting file past)
  pub sound : past.is_sound ≡ true
  pub ends : EndsKeeping setting past disk ended err doorway
  pub served : (told : Connections) → Tells doorway.output.before doorway.before told
      → ServedBy (IsWholeAfter (HasFailed doorway.output) (HasFailed disk) setting)
      (LeavesPast journal_room setting) (ended ≡ 0) command.connections past told doorway.clock doorway.now

-- a server with a journal ends as what it is to work over comes out: early, before the disk is called; or as its
-- journal is opened again or not
abbrev pub EndsKept : Serve → Change (List ℕ) → Result Setting exits.Exit → ℕ → Change (List ℕ) → Doorway → Type 0
EndsKept command disk (Err end) ended err doorway =
    TellsEnd (status_of end) (text_of end) ended err × IsUncalled doorway
EndsKept command disk (Ok setting) ended err doorway =
    EndsUnopened setting disk ended err doorway ⊎ EndsServed command setting disk ended err doorway

-- a journal is opened again over what the words name: there is no cause to refuse it but a fault of the disk or want of
-- memory
abbrev pub Opens : Serve → Directory → List ℕ → Type 0
Opens command files file =
    (setting : Setting) → IsSettingOf command.scope (Some command.keep) files (Ok setting)
    → (why : ReopenFault) → is_free (reopen_end why) ≡ false → ¬ RefusesFile setting file why

-- a server whose words name a setting, and whose journal is opened again, ends with 0, or before its first connection
-- for want of memory, where no device failed
abbrev pub CompletesKept : Serve → Change (List ℕ) → ℕ → Change Directory → Doorway → Type 0
CompletesKept command disk ended files doorway =
    ¬ HasFailed files → ¬ HasFailed doorway.output → ¬ HasFailed disk
    → IfSome files.before (λ told. HasNoFault (IsSettingOf command.scope (Some command.keep) told)
    → (file : List ℕ) → disk.before ≡ Some file → Opens command told file → EndsWell ended doorway)

-- a run of a server with a journal: it opens over the files that are told, and ends early by a failed device only where
-- the files failed, or for want of memory
pub record RunsKept (command : Serve) (disk : Change (List ℕ)) (ended : ℕ) (files : Change Directory)
    (err : Change (List ℕ)) (doorway : Doorway) : Type 0 where
  pub answer : Result Setting exits.Exit
  pub work : IfSome files.before
      (λ told. UnlessFree is_free answer (IsSettingOf command.scope (Some command.keep) told))
  pub cause : answer ≡ Err exit.Failed → HasFailed files
  pub ends : EndsKept command disk answer ended err doorway
  pub completes : CompletesKept command disk ended files doorway

-- a run of words of `serve` with a journal
pub record IsKeeping (words : List (List ℕ)) (disk : Change (List ℕ)) (ended : ℕ) (outside : Outside) : Type 0 where
  pub command : Serve
  pub accepted : IsJobWith with_journal words (serve_job command)
  pub journal : (file : List ℕ) × (command.journal ≡ Some file)
  pub runs : RunsKept command disk ended outside.files outside.err outside.doorway
  pub nothing : GotNothing outside.out

-- a run of any words, where a server may have a journal
abbrev pub IsKeptRun : List (List ℕ) → Change (List ℕ) → ℕ → Outside → Type 0
IsKeptRun words disk ended outside =
    IsTurnedAway with_journal words ended outside ⊎ IsCarriedOut with_journal words ended outside
    ⊎ ((serving : IsServing with_journal words ended outside) × (serving.command.journal ≡ None))
    ⊎ IsKeeping words disk ended outside

-- ---- what a server shows

-- what had arrived before a server's first connection: nothing without a journal, and else what the bodies give that
-- the file held
abbrev pub HadArrived : Option (List ℕ) → Setting → Option (List ℕ) → List Arrival → Type 0
HadArrived None setting told past = past ≡ []
HadArrived (Some journal) setting told past = WhereTold told (λ file.
    (bodies : List KeptBody) × (kept file ≡ Ok bodies) × Replays setting [] bodies past)

-- what a server of these words shows, over the setting of its files and the disk of its journal
pub record ShowsAsKept (Cause : Type 0) (words : List (List ℕ)) (files : Directory) (told : Option (List ℕ))
    (earlier : List Entry) (entry : Entry) : Type 0 where
  pub command : Serve
  pub accepted : IsJobWith with_journal words (serve_job command)
  pub setting : Setting
  pub has_setting : IsSetting command.scope (Some command.keep) files setting
  pub past : List Arrival
  pub arrived : HadArrived command.journal setting told past
  pub shows : Shows Cause setting past earlier entry

-- the headline, after what the kept bodies give
abbrev pub HeadlineKept : Type 0 → List (List ℕ) → Directory → Option (List ℕ) → Connections → Beside → Type 0
HeadlineKept Cause words files disk told now = HeadlineBy (ShowsAsKept Cause words files disk) told now

-- ---- what a crash leaves

-- a file holds the bodies that another held, and behind them a prefix of these
abbrev pub HoldsMore : List ℕ → List KeptBody → List ℕ → Type 0
HoldsMore file added image =
    (n : ℕ) × (n ≤ length added) × (kept image ≡ ok_map (λ bodies. bodies ++ take n added) (kept file))

-- a file holds the bodies that another held, all of these, and perhaps one more
abbrev pub HoldsAll : List ℕ → List KeptBody → List ℕ → Type 0
HoldsAll file taken image =
    (rest : List KeptBody) × (kept image ≡ ok_map (λ bodies. bodies ++ taken ++ rest) (kept file))

-- Of a disk at the entry of a run and at its end, in which these bodies were acknowledged, and then keeping those
-- failed: a crash at any moment leaves what a crash at the entry might have left, or a file that holds what was held at
-- the entry and a prefix of them, in their order; and at the end every crash leaves all that were acknowledged.
pub record SurvivesRun {D : Type 0} (may_leave : D → List ℕ → Type 0) (clock : D → ℕ)
    (left_since : D → ℕ → List ℕ → Type 0) (old new : D) (file : List ℕ) (taken failed : List KeptBody)
    : Type 0 where
  pub any_moment : Survives clock left_since old new
      (λ image. may_leave old image ⊎ HoldsMore file (taken ++ failed) image)
  pub at_end : (taken ≡ []) ⊎ ((image : List ℕ) → may_leave new image → HoldsAll file taken image)
