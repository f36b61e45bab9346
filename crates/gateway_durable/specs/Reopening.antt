-- What a durable gateway is after its journal was opened again, or why there is none.
use Rattle.std.specs.Prelude.{◌≡◌, ◌≢◌, ◌+◌, ℕ, List, [], ◌∷◌, ◌++◌, length, Ok, Err, ⊤}
use Rattle.delivery_journal.specs.Kept.{KeptBody, kept}
use Rattle.delivery_journal.specs.declared.next_fault.NextFault.{NextFault}
use Rattle.delivery_journal.specs.declared.next_fault.NextFault.TheVariants as next_fault
use Rattle.delivery_journal.specs.declared.open_fault.OpenFault.{OpenFault}
use Rattle.delivery_journal.specs.declared.open_fault.OpenFault.TheVariants as open_fault
use Rattle.gateway_core.specs.Arrivals.{Arrival, moments_of, schedule_at}
use Rattle.gateway_core.specs.Bodies.{Refuses}
use Rattle.gateway_core.specs.Standing.{Kept, Stands}
use Rattle.gateway_core.specs.declared.setting.Setting.{Setting}
use Rattle.gateway_core.specs.declared.take.body.BodyRefusal.{BodyRefusal}
use Rattle.gateway_core.specs.declared.take.body.BodyRefusal.TheVariants as refusal
use Rattle.gateway_durable.specs.Replays.{Replays}
use Rattle.gateway_durable.specs.declared.reopen_fault.ReopenFault.{ReopenFault}
use Rattle.gateway_durable.specs.declared.reopen_fault.ReopenFault.TheVariants.{Damaged, Disk, Memory, NotJournal, Replay}

-- the fault of a journal that isn't opened, and of a body that isn't read off it
abbrev pub of_open : OpenFault → ReopenFault
of_open open_fault.Disk = Disk
of_open open_fault.NotJournal = NotJournal
of_open (open_fault.Damaged at) = Damaged at

abbrev pub of_next : NextFault → ReopenFault
of_next next_fault.Disk = Disk
of_next next_fault.Memory = Memory

-- a gateway stands for what these bodies give, taken one after the other over a setting
abbrev pub StandsForBodies : Setting → List KeptBody → Kept → Type 0
StandsForBodies setting bodies gate =
    (arrivals : List Arrival) × Replays setting [] bodies arrivals × Stands gate arrivals

-- and for the bodies that a file holds
abbrev pub StandsForFile : Setting → List ℕ → Kept → Type 0
StandsForFile setting file gate =
    (bodies : List KeptBody) × (kept file ≡ Ok bodies) × StandsForBodies setting bodies gate

-- these bodies can be taken one after the other over a setting; and those that a file holds can
abbrev pub CanReplay : Setting → List KeptBody → Type 0
CanReplay setting bodies = (arrivals : List Arrival) × Replays setting [] bodies arrivals

abbrev pub FileCanReplay : Setting → List ℕ → Type 0
FileCanReplay setting file = (bodies : List KeptBody) × (kept file ≡ Ok bodies) × CanReplay setting bodies

-- after these arrivals a kept body is refused, and not for want of memory
abbrev pub IsRefused : Setting → List Arrival → KeptBody → Type 0
IsRefused setting arrivals one =
    (why : BodyRefusal) × (why ≢ refusal.Memory)
    × Refuses (schedule_at setting (one.moment ∷ moments_of arrivals)) one.kind one.body why

-- those before the n-th body, of which the first has the number 1, can be taken, and it is then refused
pub record IsRefusedAt (setting : Setting) (bodies : List KeptBody) (n : ℕ) : Type 0 where
  pub before : List KeptBody
  pub first : KeptBody
  pub rest : List KeptBody
  pub joined : bodies ≡ before ++ first ∷ rest
  pub number : n ≡ length before + 1
  pub arrivals : List Arrival
  pub replays : Replays setting [] before arrivals
  pub refused : IsRefused setting arrivals first

-- why these bodies aren't taken again; a fault of the disk and want of memory have no cause in them
abbrev pub RefusesBodies : Setting → List KeptBody → ReopenFault → Type 0
RefusesBodies setting bodies Disk = ⊤
RefusesBodies setting bodies NotJournal = ⊥
RefusesBodies setting bodies (Damaged at) = ⊥
RefusesBodies setting bodies (Replay n) = IsRefusedAt setting bodies n
RefusesBodies setting bodies Memory = ⊤

-- why a file isn't opened again: it is no journal, or damaged, or else a body that it holds is refused
abbrev pub RefusesFile : Setting → List ℕ → ReopenFault → Type 0
RefusesFile setting file Disk = ⊤
RefusesFile setting file NotJournal = kept file ≡ Err open_fault.NotJournal
RefusesFile setting file (Damaged at) = kept file ≡ Err (open_fault.Damaged at)
RefusesFile setting file (Replay n) = (bodies : List KeptBody) × (kept file ≡ Ok bodies) × IsRefusedAt setting bodies n
RefusesFile setting file Memory = ⊤
