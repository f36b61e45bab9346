-- What the calls of a disk do to the file on it, and what a crash may leave of it.
use Rattle.std.specs.Prelude.{◌≡◌, ◌⊎◌, ◌≤◌, ◌+◌, ⊤, ℕ, max, List, ◌++◌, length, take, drop, Option, Some, None}

-- the file with these bytes put at their place; all other bytes stay
abbrev pub with_bytes_at : List ℕ → ℕ → List ℕ → List ℕ
with_bytes_at file at bytes = take at file ++ bytes ++ drop (at + length bytes) file

-- A write of n bytes at this place that may have been cut short, by the file before it and after it. In its range, and
-- past the old end, any byte may stand; the bytes before the range and those behind it stay. The file may have grown as
-- far as the range's end, or less far.
pub record Torn (at n : ℕ) (old new : List ℕ) : Type 0 where
  pub before : take at new ≡ take at old
  pub behind : drop (at + n) new ≡ drop (at + n) old
  pub no_shorter : length old ≤ length new
  pub no_longer : length new ≤ max (length old) (at + n)

-- each image that a crash may leave now is one that it might have left before, after this step
abbrev pub ComeBy : (List ℕ → List ℕ → Type 0) → (List ℕ → Type 0) → (List ℕ → Type 0) → Type 0
ComeBy Step old new = (image : List ℕ) → new image → (from : List ℕ) × old from × Step from image

-- a crash may leave nothing else than it might have left before
abbrev pub NoMore : (List ℕ → Type 0) → (List ℕ → Type 0) → Type 0
NoMore old new = (image : List ℕ) → new image → old image

-- a crash leaves this file and no other
abbrev pub LeavesThis : List ℕ → (List ℕ → Type 0) → Type 0
LeavesThis file may_leave = (image : List ℕ) → may_leave image → image ≡ file

-- The clock over a call: it doesn't fall. What a crash since an earlier reading of it may have left is, after the call,
-- what that was before, and beside it what a crash may leave now.
pub record Passes (before now : ℕ) (old new : ℕ → List ℕ → Type 0) (may_leave : List ℕ → Type 0) : Type 0 where
  pub never_falls : before ≤ now
  pub keeps : (since : ℕ) (image : List ℕ) → since ≤ before → old since image → new since image
  pub no_more : (since : ℕ) (image : List ℕ) → since ≤ before → new since image → old since image ⊎ may_leave image

-- of every file that the disk tells, this holds
abbrev pub WhereTold : Option (List ℕ) → (List ℕ → Type 0) → Type 0
WhereTold told Holds = (file : List ℕ) → told ≡ Some file → Holds file

-- it tells a file now exactly where it told one before, and this holds of the two
abbrev pub Changes : (List ℕ → List ℕ → Type 0) → Option (List ℕ) → Option (List ℕ) → Type 0
Changes Step (Some old) (Some new) = Step old new
Changes Step None None = ⊤
Changes Step (Some old) None = ⊥
Changes Step None (Some new) = ⊥

-- Of a disk at two moments: whatever a crash since the first may have left, in a call or between two, this holds of it.
-- The last field says the same for a span that began before.
pub record Survives {D : Type 0} (clock : D → ℕ) (left_since : D → ℕ → List ℕ → Type 0) (old new : D)
    (Holds : List ℕ → Type 0) : Type 0 where
  pub later : clock old ≤ clock new
  pub each : (image : List ℕ) → left_since new (clock old) image → Holds image
  pub from_before : (since : ℕ) (image : List ℕ) → since ≤ clock old → left_since new since image
      → left_since old since image ⊎ Holds image

-- Of a disk at two moments between which it was only read or brought onto the disk: it tells the same file, and a
-- crash may leave, and may have left since a reading of its clock at or before the first moment, no more than at the
-- first.
pub record ReadsOnly {D : Type 0} (told : D → Option (List ℕ)) (may_leave : D → List ℕ → Type 0) (clock : D → ℕ)
    (left_since : D → ℕ → List ℕ → Type 0) (old new : D) : Type 0 where
  pub same : told new ≡ told old
  pub images : NoMore (may_leave old) (may_leave new)
  pub later : clock old ≤ clock new
  pub since : (since : ℕ) (image : List ℕ) → since ≤ clock old → left_since new since image → left_since old since image
