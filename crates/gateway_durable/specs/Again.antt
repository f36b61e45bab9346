-- A body that is kept already is taken again, one step of several.
use Rattle.std.specs.Prelude.{◌≡◌, ◌+◌, ℕ, List, [], ◌∷◌, ◌++◌, length, Option, Some, None, Result, Ok, Err, ⊤}
use Rattle.journey_model.specs.declared.report.Report.{Report}
use Rattle.delivery_journal.specs.Kept.{KeptBody, place_after}
use Rattle.gateway_core.specs.Arrivals.{Arrival, Given}
use Rattle.gateway_core.specs.Bodies.{Brings}
use Rattle.gateway_core.specs.Standing.{Kept, Stands}
use Rattle.gateway_core.specs.declared.setting.Setting.{Setting}
use Rattle.gateway_core.specs.declared.take.kept.KeptFault.{KeptFault}
use Rattle.gateway_core.specs.declared.take.kept.KeptFault.TheVariants as kept_fault
use Rattle.gateway_durable.specs.Reopening.{IsRefused, RefusesBodies, StandsForBodies}
use Rattle.gateway_durable.specs.Replays.{Replays}
use Rattle.gateway_durable.specs.declared.reopen_fault.ReopenFault.{ReopenFault}
use Rattle.gateway_durable.specs.declared.reopen_fault.ReopenFault.TheVariants.{Damaged, Disk, Memory, NotJournal, Replay}

-- why a body of that number isn't taken again: it is refused, or for want of memory; nothing has to be kept
abbrev pub of_kept : KeptFault → ℕ → ReopenFault
of_kept kept_fault.NotJson number = Replay number
of_kept (kept_fault.NotDelivery member) number = Replay number
of_kept (kept_fault.Feed fault) number = Replay number
of_kept kept_fault.Differential number = Replay number
of_kept (kept_fault.TooManyCalls calls) number = Replay number
of_kept kept_fault.Unkept number = Memory
of_kept (kept_fault.Full end) number = Memory
of_kept kept_fault.Memory number = Memory

-- a fault of the disk, or want of memory
abbrev pub IsFree : ReopenFault → Type 0
IsFree Disk = ⊤
IsFree NotJournal = ⊥
IsFree (Damaged at) = ⊥
IsFree (Replay n) = ⊥
IsFree Memory = ⊤

-- no fault of the disk
abbrev pub IsNotOfDisk : ReopenFault → Type 0
IsNotOfDisk Disk = ⊥
IsNotOfDisk NotJournal = ⊤
IsNotOfDisk (Damaged at) = ⊤
IsNotOfDisk (Replay n) = ⊤
IsNotOfDisk Memory = ⊤

-- a kept body of that number is taken again after these arrivals, or refused
abbrev pub TakesAgain : Setting → List Arrival → KeptBody → ℕ → Result (Unit {0}) ReopenFault → Kept → Type 0
TakesAgain setting arrivals new number (Ok done) now =
    (report : Report) × (given : Given) × Brings setting arrivals new.moment new.kind new.body report given
    × Stands now (record { moment = new.moment; gives = given } ∷ arrivals)
TakesAgain setting arrivals new number (Err Disk) now = ⊥
TakesAgain setting arrivals new number (Err NotJournal) now = ⊥
TakesAgain setting arrivals new number (Err (Damaged at)) now = ⊥
TakesAgain setting arrivals new number (Err (Replay n)) now = (n ≡ number) × IsRefused setting arrivals new
TakesAgain setting arrivals new number (Err Memory) now = ⊤

-- so many of these bodies were taken again, and the gateway stands for what they gave; the gate behind them stands
-- there
pub record HasReplayed (setting : Setting) (bodies : List KeptBody) (at count : ℕ) (gate : Kept) : Type 0 where
  pub before : List KeptBody
  pub rest : List KeptBody
  pub joined : bodies ≡ before ++ rest
  pub place : at ≡ place_after before
  pub number : count ≡ length before
  pub arrivals : List Arrival
  pub replays : Replays setting [] before arrivals
  pub stands : Stands gate arrivals

-- after so many of these bodies: the next one was taken too, there was none, or it is refused
abbrev pub ReplaysNext : Setting → List KeptBody → ℕ → Result (Option ℕ) ReopenFault → Kept → Type 0
ReplaysNext setting bodies count (Ok None) now = StandsForBodies setting bodies now
ReplaysNext setting bodies count (Ok (Some next)) now = HasReplayed setting bodies next (count + 1) now
ReplaysNext setting bodies count (Err why) now = RefusesBodies setting bodies why
