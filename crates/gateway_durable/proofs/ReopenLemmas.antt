-- Why a durable gateway isn't opened again, and what one stands for that is.
use Rattle.std.proofs.Common.{◌≡◌, ◌≢◌, inl, inr, ⊎_elim, ℕ, ◌≤◌, List, Option, Result, Ok, Err, refl, sym, ◌∙◌, ap, subst, arith}
use Rattle.std.proofs.lemmas.Option.{same_Some}
use Rattle.std.specs.Result.{result_err, result_ok}
use Rattle.gw_base.specs.Count.{Rose}
use Rattle.delivery_journal.specs.Disk.{WhereTold}
use Rattle.delivery_journal.specs.Kept.{KeptBody, kept}
use Rattle.delivery_journal.specs.Standing as journals
use Rattle.delivery_journal.specs.declared.open_fault.OpenFault.{OpenFault}
use Rattle.delivery_journal.specs.declared.open_fault.OpenFault.TheVariants as open_fault
use Rattle.gateway_core.specs.Standing.{Kept}
use Rattle.gateway_core.specs.declared.setting.Setting.{Setting}
use Rattle.gateway_durable.specs.Reopening.{CanReplay, FileCanReplay, IsRefusedAt, RefusesBodies, RefusesFile, StandsForBodies, of_open}
use Rattle.gateway_durable.specs.Standing.{DurableStandsOn}
use Rattle.gateway_durable.specs.declared.reopen_fault.ReopenFault.{ReopenFault}
use Rattle.gateway_durable.specs.declared.reopen_fault.ReopenFault.TheVariants.{Damaged, Disk, Memory, NotJournal, Replay}
use Rattle.gateway_durable.proofs.FoundLemmas.{found_kept}

same_ok : {A E : Type 0} (a b : A) → ◌≡◌ {A = Result A E} (Ok a) (Ok b) → a ≡ b
same_ok a b e = same_Some a b (ap result_ok e)

pub open_refuses : (setting : Setting) (file : List ℕ) (fault : OpenFault) → (fault ≢ open_fault.Disk → kept file ≡ Err fault)
    → RefusesFile setting file (of_open fault)
open_refuses setting file open_fault.Disk h = tt
open_refuses setting file open_fault.NotJournal h = h other
  where
    other : open_fault.NotJournal ≡ open_fault.Disk → ⊥
    other e = cc
open_refuses setting file (open_fault.Damaged at) h = h other
  where
    other : open_fault.Damaged at ≡ open_fault.Disk → ⊥
    other e = cc

pub replay_refuses : (setting : Setting) (file : List ℕ) (bodies : List KeptBody) → kept file ≡ Ok bodies → (why : ReopenFault)
    → RefusesBodies setting bodies why → RefusesFile setting file why
replay_refuses setting file bodies held Disk refuses = tt
replay_refuses setting file bodies held NotJournal refuses = absurd refuses
replay_refuses setting file bodies held (Damaged at) refuses = absurd refuses
replay_refuses setting file bodies held (Replay n) refuses = (bodies, held, refuses)
replay_refuses setting file bodies held Memory refuses = tt

-- a file that can be replayed isn't refused for a body
pub never_replay : ((setting : Setting) (bodies : List KeptBody) (n : ℕ) → CanReplay setting bodies → IsRefusedAt setting bodies n → ⊥)
    → (setting : Setting) (file : List ℕ) (why : ReopenFault) → RefusesFile setting file why → (n : ℕ) → why ≡ Replay n
    → FileCanReplay setting file → ⊥
never_replay never setting file why refuses n is can =
    let at : RefusesFile setting file (Replay n) = subst (λ (w : ReopenFault). RefusesFile setting file w) is refuses in
    never setting at.0 n (subst (λ (b : List KeptBody). CanReplay setting b) (same_ok can.0 at.0 (sym can.1 ∙ at.1)) can.2) at.2

-- a gateway that stands for what a journal holds stands on the disk with it
pub stands_with : {D : Type 0} (told : D → Option (List ℕ)) (may_leave : D → List ℕ → Type 0) (disk : D) (gate : Kept) (journal : journals.Standing)
    → journals.StandsOn told may_leave journal disk
    → WhereTold (told disk) (λ file. (bodies : List KeptBody) → kept file ≡ Ok bodies → StandsForBodies gate.setting bodies gate)
    → DurableStandsOn told may_leave (record { gate = gate; journal = journal }) disk
stands_with told may_leave disk gate journal stands replays file is =
    let rest = stands file is in
    let all = replays file is rest.bodies (found_kept file (record { bodies = rest.bodies; end = journal.end }) rest.holds) in
    record {
      bodies = rest.bodies;
      holds = rest.holds;
      on_disk = rest.on_disk;
      arrivals = all.0;
      replays = all.1;
      stands = all.2;
    }

-- ---- the count of faults

pub open_disk : {A B : Type 0} (fault : OpenFault) → ◌≡◌ {A = Result A ReopenFault} (Err (of_open fault)) (Err Disk)
    → ◌≡◌ {A = Result B OpenFault} (Err fault) (Err open_fault.Disk)
open_disk open_fault.Disk e = refl
open_disk open_fault.NotJournal e = absurd (cc)
open_disk (open_fault.Damaged at) e = absurd (cc)

pub same_fault : {A B : Type 0} (fault other : ReopenFault) → ◌≡◌ {A = Result A ReopenFault} (Err fault) (Err other)
    → ◌≡◌ {A = Result B ReopenFault} (Err fault) (Err other)
same_fault fault other e = ap Err (same_Some fault other (ap result_err e))

-- a count that rose later rose
pub rose_later : (old mid new : ℕ) → old ≤ mid → Rose mid new → Rose old new
rose_later old mid new le rose = ⊎_elim (λ more. inl (omega (arith, le, more))) (λ last. inr last) rose
