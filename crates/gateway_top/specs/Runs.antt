-- How a run of the program ends: its status, what standard output and standard error got, and what a server did at its
-- door.
use Rattle.std.specs.Prelude.{◌≡◌, ◌≤◌, ◌⊎◌, ℕ, ℤ, List, [], ◌++◌, length, take, codes, decimal, false, Some, Result, Ok, Err, IfSome}
use Rattle.gw_base.specs.Answers.{UnlessFree}
use Rattle.gw_base.specs.Changes.{Change}
use Rattle.gw_base.specs.Connections.{Beside, Connections}
use Rattle.gw_base.specs.Count.{Rose}
use Rattle.gw_base.specs.Told.{with_bytes, PutsUnless}
use Rattle.file_commands.specs.Done.{Done}
use Rattle.file_commands.specs.Exits.{is_free, status_of, text_of}
use Rattle.gateway_top.specs.Serving.{HasCounted, Served}
use Rattle.file_commands.specs.Tasks.{IsTaskWork, OverFiles}
use Rattle.file_commands.specs.Work.{Directory, IsSettingOf}
use Rattle.command_words.specs.Tables.{Pair}
use Rattle.command_words.specs.Words.{IsJobWith, IsRefusedWith, Serve, Task, serve_job, task_job}
use Rattle.file_commands.specs.declared.exit.Exit.{Exit}
use Rattle.file_commands.specs.declared.exit.Exit.TheVariants.{Failed}
use Rattle.gateway_core.specs.Arrivals.{Arrival}
use Rattle.gateway_core.specs.declared.setting.Setting.{Setting}
use Rattle.gateway_server.specs.Serving.{Tells}

-- what a run did to the door, to which it writes as to a sink, with its connections before and after, and to the clock
pub record Doorway : Type 0 where
  pub output : Change (List ℕ)
  pub before : Beside
  pub now : Beside
  pub clock : Change (List ℤ)

-- what it did to the outside: to the files, to standard output and to standard error, and at the door
pub record Outside : Type 0 where
  pub files : Change Directory
  pub out : Change (List ℕ)
  pub err : Change (List ℕ)
  pub doorway : Doorway

-- a device failed in the run: its count of faults rose
abbrev pub HasFailed : {Told : Type 0} → Change Told → Type 0
HasFailed device = Rose device.faults_before device.faults_now

-- a sink got all of a text, or nothing
abbrev pub Got : Change (List ℕ) → List ℕ → Type 0
Got sink text = sink.now ≡ with_bytes sink.before text

abbrev pub GotNothing : Change (List ℕ) → Type 0
GotNothing sink = sink.now ≡ sink.before

-- a sink got a prefix of a text, and less than the whole only where it failed
abbrev pub GotUnlessFailed : Change (List ℕ) → List ℕ → Type 0
GotUnlessFailed sink text = PutsUnless (HasFailed sink) sink.before sink.now text

-- the line of standard error that tells why a run ended
abbrev pub line : List ℕ → List ℕ
line text = codes "gateway: " ++ text ++ codes "\n"

-- a run that ends with this status, and with the line of this text on standard error
pub record TellsEnd (status : ℕ) (text : List ℕ) (ended : ℕ) (err : Change (List ℕ)) : Type 0 where
  pub status_is : ended ≡ status
  pub told : GotUnlessFailed err (line text)

-- a run that ends early: with this status and line, and with nothing on standard output
abbrev pub EndsEarly : ℕ → List ℕ → ℕ → Change (List ℕ) → Change (List ℕ) → Type 0
EndsEarly status text ended out err = TellsEnd status text ended err × GotNothing out

-- ---- words of no command

-- a run of words that are no command's
pub record IsTurnedAway (optional : List Pair) (words : List (List ℕ)) (ended : ℕ) (outside : Outside) : Type 0 where
  pub at : ℕ
  pub refused : IsRefusedWith optional words at
  pub ends : EndsEarly 2 (codes "bad word " ++ decimal at) ended outside.out outside.err

-- ---- a command that writes its result and ends

-- a run whose work is done: both streams got all of their texts
pub record EndsDone (done : Done) (ended : ℕ) (out err : Change (List ℕ)) : Type 0 where
  pub status_is : ended ≡ 0
  pub written : Got out done.out
  pub reported : Got err done.err

-- a run of which a stream failed once the work was done: standard output got a prefix of its text, and standard error a
-- prefix of the reports and then the line of the failure
pub record EndsCutOff (done : Done) (ended : ℕ) (out err : Change (List ℕ)) : Type 0 where
  pub status_is : ended ≡ 74
  pub cause : HasFailed out ⊎ HasFailed err
  pub written : GotUnlessFailed out done.out
  pub reported : ℕ
  pub within : reported ≤ length done.err
  pub told : PutsUnless (HasFailed err) (with_bytes err.before (take reported done.err)) err.now (line (codes "failed"))

-- a run ends as the answer of its work says
abbrev pub Ends : Result Done Exit → ℕ → Change (List ℕ) → Change (List ℕ) → Type 0
Ends (Ok done) ended out err = EndsDone done ended out err ⊎ EndsCutOff done ended out err
Ends (Err exit) ended out err = EndsEarly (status_of exit) (text_of exit) ended out err

-- work has no stated fault: where it ends early, that says nothing of the input
abbrev pub HasNoFault : {A : Type 0} → (Result A Exit → Type 0) → Type 0
HasNoFault Work = (end : Exit) → is_free end ≡ false → ¬ Work (Err end)

-- a command whose work has no stated fault ends with 0, or with 71 for want of memory, where no device failed
abbrev pub CompletesTask : Task → ℕ → Change Directory → Change (List ℕ) → Change (List ℕ) → Type 0
CompletesTask task ended files out err =
    ¬ HasFailed files → ¬ HasFailed out → ¬ HasFailed err
    → OverFiles task files.before (λ told. HasNoFault (IsTaskWork task told) → (ended ≡ 0) ⊎ (ended ≡ 71))

-- a run of such a command: it ends as its work comes out over the files that are told, and early by a failed device
-- only where the files failed, or for want of memory; the work of `make` comes out whatever is told
pub record RunsTask (task : Task) (ended : ℕ) (files : Change Directory) (out err : Change (List ℕ)) : Type 0 where
  pub answer : Result Done Exit
  pub work : OverFiles task files.before (λ told. UnlessFree is_free answer (IsTaskWork task told))
  pub cause : answer ≡ Err Failed → HasFailed files
  pub ends : Ends answer ended out err
  pub completes : CompletesTask task ended files out err

-- a run of words of such a command
pub record IsCarriedOut (optional : List Pair) (words : List (List ℕ)) (ended : ℕ) (outside : Outside) : Type 0 where
  pub task : Task
  pub accepted : IsJobWith optional words (task_job task)
  pub runs : RunsTask task ended outside.files outside.out outside.err

-- ---- a server

-- a door and a clock that weren't called
pub record IsUncalled (doorway : Doorway) : Type 0 where
  pub output : doorway.output.now ≡ doorway.output.before
  pub output_faults : doorway.output.faults_now ≡ doorway.output.faults_before
  pub connections : doorway.now ≡ doorway.before
  pub clock : doorway.clock.now ≡ doorway.clock.before
  pub clock_faults : doorway.clock.faults_now ≡ doorway.clock.faults_before

-- the faults at a door that tells its connections: those of its entries, and so many besides
abbrev pub CountsFaults : Setting → List Arrival → ℕ → Doorway → Type 0
CountsFaults setting past besides doorway =
    (told : Connections) → Tells doorway.output.before doorway.before told
    → HasCounted setting past told doorway.now besides doorway.output doorway.clock

-- a server whose connections came to an end: with status 0 and nothing told; or with 74 where its door failed, which is
-- one fault besides those of the connections
abbrev pub EndsServing : Setting → List Arrival → ℕ → Change (List ℕ) → Doorway → Type 0
EndsServing setting past ended err doorway =
    ((ended ≡ 0) × GotNothing err × CountsFaults setting past 0 doorway)
    ⊎ (HasFailed doorway.output × TellsEnd 74 (codes "failed") ended err × CountsFaults setting past 1 doorway)

-- a server ends as what it is to work over comes out: early, before its first connection, or after its connections;
-- and it served what came to a door that tells its connections
abbrev pub EndsServer : Serve → List Arrival → Result Setting Exit → ℕ → Change (List ℕ) → Doorway → Type 0
EndsServer command past (Err exit) ended err doorway =
    TellsEnd (status_of exit) (text_of exit) ended err × IsUncalled doorway
EndsServer command past (Ok setting) ended err doorway =
    EndsServing setting past ended err doorway
    × ((told : Connections) → Tells doorway.output.before doorway.before told
    → Served (HasFailed doorway.output) (ended ≡ 0) command.connections setting past told doorway.clock doorway.now)

-- a server ends with 0, or for want of memory with 71, before its first connection
abbrev pub EndsWell : ℕ → Doorway → Type 0
EndsWell ended doorway = (ended ≡ 0) ⊎ ((ended ≡ 71) × IsUncalled doorway)

-- a server whose words name a setting ends so, where no device failed
abbrev pub CompletesServer : Serve → ℕ → Change Directory → Doorway → Type 0
CompletesServer command ended files doorway =
    ¬ HasFailed files → ¬ HasFailed doorway.output
    → IfSome files.before
    (λ told. HasNoFault (IsSettingOf command.scope (Some command.keep) told) → EndsWell ended doorway)

-- a run of a server, before which this had arrived: it opens over the files that are told, and ends early by a failed
-- device only where the files failed, or for want of memory
pub record RunsServer (command : Serve) (past : List Arrival) (ended : ℕ) (files : Change Directory)
    (err : Change (List ℕ)) (doorway : Doorway) : Type 0 where
  pub answer : Result Setting Exit
  pub work : IfSome files.before
      (λ told. UnlessFree is_free answer (IsSettingOf command.scope (Some command.keep) told))
  pub cause : answer ≡ Err Failed → HasFailed files
  pub ends : EndsServer command past answer ended err doorway
  pub completes : CompletesServer command ended files doorway

-- a run of words of `serve` without a journal, before which nothing had arrived
pub record IsServing (optional : List Pair) (words : List (List ℕ)) (ended : ℕ) (outside : Outside) : Type 0 where
  pub command : Serve
  pub accepted : IsJobWith optional words (serve_job command)
  pub runs : RunsServer command [] ended outside.files outside.err outside.doorway
  pub nothing : GotNothing outside.out

-- a run of any words, which ended with that status
abbrev pub IsRun : List (List ℕ) → ℕ → Outside → Type 0
IsRun words ended outside =
    IsTurnedAway [] words ended outside ⊎ IsCarriedOut [] words ended outside ⊎ IsServing [] words ended outside
