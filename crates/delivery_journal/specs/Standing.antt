-- What a journal stands for: where its list ends, and that all of it is on the disk.
use Rattle.gw_base.specs.declared.kind.Kind.{Kind}
use Rattle.std.specs.Prelude.{ℤ, ◌+◌, None, Some, ◌⊎◌, nat_le, if◌then◌else◌, ◌≡◌, ℕ, Bool, List, [], ◌∷◌, ◌++◌, length, Option, Ok}
use Rattle.delivery_journal.specs.Disk.{LeavesThis, WhereTold, with_bytes_at}
use Rattle.delivery_journal.specs.HeaderBytes.{header_bytes}
use Rattle.delivery_journal.specs.Kept.{KeptBody, kept, found, magic}

-- a journal: the place of the closed gate behind its list, and whether it may be used
pub record Standing : Type 0 where
  pub end : ℕ
  pub is_sound : Bool

-- a list of bodies is found in the file, its closed gate stands at `end`, and a crash leaves this file
pub record IsAtRest (may_leave : List ℕ → Type 0) (end : ℕ) (file : List ℕ) : Type 0 where
  pub bodies : List KeptBody
  pub holds : found file ≡ Ok (record { bodies = bodies; end = end })
  pub on_disk : LeavesThis file may_leave

-- a journal stands on this disk, by what the disk tells and what a crash may leave of it
abbrev pub StandsOn : {D : Type 0} → (D → Option (List ℕ)) → (D → List ℕ → Type 0) → Standing → D → Type 0
StandsOn told may_leave journal disk = WhereTold (told disk) (IsAtRest (may_leave disk) journal.end)

-- a file that holds nothing
abbrev pub new_file : List ℕ
new_file = magic ++ 0 ∷ []

-- the file after a journal was opened: one of at most 9 bytes is made anew
abbrev pub opened_file : List ℕ → List ℕ
opened_file file = if nat_le (length file) 9 then new_file else file

-- the file after a body was appended at the closed gate's place: what stood before that, an open gate, the body's
-- header, the body, and a closed gate; what stood behind these stays
abbrev pub appended_file : ℕ → KeptBody → List ℕ → List ℕ
appended_file end new file =
    with_bytes_at file end (1 ∷ (header_bytes new.kind new.moment (length new.body) ++ new.body ++ 0 ∷ []))

-- a file that a crash may have left holds these bodies, or these and the new one behind them
abbrev pub HoldsWithOrWithout : List KeptBody → KeptBody → List ℕ → Type 0
HoldsWithOrWithout bodies new image = (kept image ≡ Ok bodies) ⊎ (kept image ≡ Ok (bodies ++ new ∷ []))

-- what the file holds now is what it held, with this body behind it
abbrev pub Adds : KeptBody → Option (List ℕ) → Option (List ℕ) → Type 0
Adds new before now = (bodies : List KeptBody) → WhereTold before (λ file. kept file ≡ Ok bodies)
    → WhereTold now (λ file. kept file ≡ Ok (bodies ++ new ∷ []))

-- what is answered at a gate's place, by the bodies from there on: the first of them, and the place of the gate behind
-- it; nothing where there is none
abbrev pub Gives : List KeptBody → ℕ → Option (Kind × ℤ × ℕ) → List ℕ → Type 0
Gives [] at answer read = answer ≡ None
Gives (first ∷ rest) at answer read =
    (answer ≡ Some (first.kind, first.moment, at + 14 + length first.body)) × (read ≡ first.body)
