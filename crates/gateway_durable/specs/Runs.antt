-- What a crash leaves of several calls, one after the other on one disk.
use Rattle.std.specs.Prelude.{◌≡◌, ◌≤◌, ℕ, List, [], ◌∷◌, ◌++◌, length, take, Option, Some, Result, Ok, Err}
use Rattle.delivery_journal.specs.Disk.{Survives}
use Rattle.delivery_journal.specs.Kept.{KeptBody, kept}
use Rattle.gateway_core.specs.declared.accepted.Accepted.{Accepted}
use Rattle.gateway_core.specs.declared.setting.Setting.{Setting}
use Rattle.gateway_core.specs.declared.take.kept.KeptFault.{KeptFault}
use Rattle.gateway_core.specs.declared.take.kept.KeptFault.TheVariants.{Differential, Feed, Full, Memory, NotDelivery, NotJson, TooManyCalls, Unkept}
use Rattle.gateway_durable.specs.Reopening.{CanReplay}

-- a file holds these bodies, and behind them a prefix of those that were to be added since; all of them can be taken
-- again
abbrev pub HoldsPrefix : Setting → List KeptBody → List KeptBody → List ℕ → Type 0
HoldsPrefix setting bodies added image =
    (n : ℕ) × (n ≤ length added) × (kept image ≡ Ok (bodies ++ take n added))
    × CanReplay setting (bodies ++ take n added)

-- of a disk at two moments: a crash at any moment since the first leaves such a file
abbrev pub LeavesPrefix : {D : Type 0} → (D → ℕ) → (D → ℕ → List ℕ → Type 0) → D → D → Setting → List KeptBody
    → List KeptBody → Type 0
LeavesPrefix clock left_since first now setting bodies added =
    Survives clock left_since first now (HoldsPrefix setting bodies added)

-- what a call adds to the bodies that were taken, by its answer, and to those of which keeping failed
abbrev pub taken_of : Result Accepted KeptFault → KeptBody → List KeptBody
taken_of (Ok accepted) new = new ∷ []
taken_of (Err why) new = []

abbrev pub failed_of : Result Accepted KeptFault → KeptBody → List KeptBody
failed_of (Ok accepted) new = []
failed_of (Err Unkept) new = new ∷ []
failed_of (Err NotJson) new = []
failed_of (Err (NotDelivery member)) new = []
failed_of (Err (Feed fault)) new = []
failed_of (Err Differential) new = []
failed_of (Err (TooManyCalls calls)) new = []
failed_of (Err (Full end)) new = []
failed_of (Err Memory) new = []

-- Of a disk at two moments, and the bodies that its file held at the first: since then a durable gateway took some,
-- each of them was acknowledged, and then keeping one failed, or none. A crash at any moment leaves the bodies from
-- before with a prefix of these, in their order, none skipped and none in part; and a crash from now on leaves all
-- that were taken. Where keeping none failed the file holds just these.
pub record HasKept {D : Type 0} (told : D → Option (List ℕ)) (may_leave : D → List ℕ → Type 0) (clock : D → ℕ)
    (left_since : D → ℕ → List ℕ → Type 0) (first now : D) (setting : Setting) (bodies taken failed : List KeptBody)
    : Type 0 where
  pub any_moment : LeavesPrefix clock left_since first now setting bodies (taken ++ failed)
  pub from_now : (image : List ℕ) → may_leave now image → HoldsPrefix setting (bodies ++ taken) failed image
  pub file : failed ≡ [] → (file : List ℕ) × (told now ≡ Some file) × (kept file ≡ Ok (bodies ++ taken))
