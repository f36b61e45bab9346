-- Bytes that leave groups open.
use Rattle.std.specs.Prelude.{◌≡◌, ℕ, suc, List, [], ◌∷◌, ◌++◌}
use Rattle.wire_fields.specs.Grammar.{Group, WireField, Holds, IsItem, IsSpelling, Concatenates}
use Rattle.wire_fields.specs.Breaks.{IsRun}

-- after what opened the outer groups, the start of a group and whole fields in it
pub record IsLevel (Outer : List ℕ → Type 0) (number room : ℕ) (bytes : List ℕ) : Type 0 where
  pub front : List ℕ
  pub start : List ℕ
  pub inside : List ℕ
  pub fields : List WireField
  pub joined : bytes ≡ front ++ (start ++ inside)
  pub outer : Outer front
  pub starts : IsItem (Holds (record { number = number; payload = Group })) start
  pub holds : Concatenates (IsSpelling room) fields inside

-- the bytes leave these groups open, the innermost first, and there is room for so many more
unfoldable pub IsOpen : List ℕ → ℕ → List ℕ → Type 0
IsOpen [] room bytes = (bytes ≡ []) × (room ≡ 64)
IsOpen (number ∷ groups) room bytes = IsLevel (IsOpen groups (suc room)) number room bytes

-- the bytes are a run, and leave these groups open; where none is open, there are no bytes
pub record IsWalked (groups bytes : List ℕ) : Type 0 where
  pub room : ℕ
  pub is_open : IsOpen groups room bytes
  pub is_run : IsRun bytes groups
