-- What a durable gateway stands for: the bodies that its journal holds, all of them on the disk.
use Rattle.std.specs.Prelude.{◌≡◌, ℕ, List, [], Option, Ok}
use Rattle.delivery_journal.specs.Disk.{LeavesThis, WhereTold}
use Rattle.delivery_journal.specs.Kept.{KeptBody, found}
use Rattle.delivery_journal.specs.Standing as journals
use Rattle.gateway_core.specs.Arrivals.{Arrival}
use Rattle.gateway_core.specs.Standing.{Kept, Stands}
use Rattle.gateway_durable.specs.Replays.{Replays}

-- a durable gateway as contracts see it: its gateway, and its journal
pub record DurableGate : Type 0 where
  pub gate : Kept
  pub journal : journals.Standing

-- a list of bodies is found in the file, its closed gate stands where the journal ends, and a crash leaves this file;
-- taken one after the other, the bodies give the arrivals that the gateway stands for
pub record IsDurable (may_leave : List ℕ → Type 0) (durable : DurableGate) (file : List ℕ) : Type 0 where
  pub bodies : List KeptBody
  pub holds : found file ≡ Ok (record { bodies = bodies; end = durable.journal.end })
  pub on_disk : LeavesThis file may_leave
  pub arrivals : List Arrival
  pub replays : Replays durable.gate.setting [] bodies arrivals
  pub stands : Stands durable.gate arrivals

-- a durable gateway stands on this disk, by what the disk tells and what a crash may leave of it
abbrev pub DurableStandsOn : {D : Type 0} → (D → Option (List ℕ)) → (D → List ℕ → Type 0) → DurableGate → D → Type 0
DurableStandsOn told may_leave durable disk = WhereTold (told disk) (IsDurable (may_leave disk) durable)
