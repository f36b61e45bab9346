-- Where and how bytes are no list of fields.
use Rattle.std.specs.Prelude.{◌≡◌, ◌≢◌, ℕ, ◌≤◌, ◌++◌, ◌==◌, ◌%◌, nat_lt, if◌then◌else◌, List, [], ◌∷◌, length, Option, Some, None, option_and_then, ◌⊎◌}
use Rattle.std.specs.List.{AllByRecursion}
use Rattle.gw_base.specs.declared.wire_kind.WireKind.{WireKind}
use Rattle.gw_base.specs.declared.wire_kind.WireKind.TheVariants.{Truncated, LongVarint, BadTag, BadGroup, DeepGroup}
use Rattle.wire_fields.specs.Grammar.{Payload, Varint, Fixed64, Bytes, Group, Fixed32, WireField, Item, Holds, Ends, IsVarint, IsSoundTag, IsItem, Concatenates, IsSpelling, AreFields}

-- the numbers of the open groups, the innermost first, after a field of a run; no 65th group can be opened
abbrev pub open_after_field : List ℕ → ℕ → Payload → Option (List ℕ)
open_after_field groups number Group = if nat_lt (length groups) 64 then Some (number ∷ groups) else None
open_after_field groups number (Varint value) = Some groups
open_after_field groups number (Fixed64 value) = Some groups
open_after_field groups number (Bytes body) = Some groups
open_after_field groups number (Fixed32 value) = Some groups

-- after an end, which closes the innermost open group and has its number
abbrev pub open_after_end : List ℕ → ℕ → Option (List ℕ)
open_after_end [] number = None
open_after_end (innermost ∷ groups) number = if innermost == number then Some groups else None

-- after an item that can follow
abbrev pub open_after_item : List ℕ → Item → Option (List ℕ)
open_after_item groups (Holds field) = open_after_field groups field.number field.payload
open_after_item groups (Ends number) = open_after_end groups number

-- after items of which each can follow
abbrev pub open_after : List ℕ → List Item → Option (List ℕ)
open_after groups [] = Some groups
open_after groups (item ∷ items) = option_and_then (λ now. open_after now items) (open_after_item groups item)

-- a run: items of which each end closes the innermost open group, with at most 64 open at once; it leaves these open
abbrev pub IsRun : List ℕ → List ℕ → Type 0
IsRun bytes groups = (items : List Item) × Concatenates IsItem items bytes × (open_after [] items ≡ Some groups)

-- ten bytes that all have the high bit set
abbrev pub BeginsLong : List ℕ → Type 0
BeginsLong bytes =
    (front : List ℕ) × (rest : List ℕ) × (bytes ≡ front ++ rest) × (length front ≡ 10)
    × AllByRecursion (λ byte. 128 ≤ byte) front

-- a sound tag whose payload begins with a varint, and then such bytes
abbrev pub BeginsLongPayload : List ℕ → Type 0
BeginsLongPayload bytes =
    (tag : List ℕ) × (rest : List ℕ) × (value : ℕ) × (bytes ≡ tag ++ rest) × IsVarint tag value × IsSoundTag value
    × ((value % 8 ≡ 0) ⊎ (value % 8 ≡ 2)) × BeginsLong rest

-- a whole varint that is no sound tag
abbrev pub BeginsUnsound : List ℕ → Type 0
BeginsUnsound bytes =
    (tag : List ℕ) × (rest : List ℕ) × (value : ℕ) × (bytes ≡ tag ++ rest) × IsVarint tag value × ¬ IsSoundTag value

-- the end of a group that doesn't close the innermost of these open groups, or that comes while none is open
abbrev pub BeginsEnd : List ℕ → List ℕ → Type 0
BeginsEnd groups bytes =
    (end : List ℕ) × (rest : List ℕ) × (number : ℕ) × (bytes ≡ end ++ rest) × IsItem (Ends number) end
    × (open_after_end groups number ≡ None)

-- the start of a group where 64 are open
abbrev pub BeginsDeep : List ℕ → List ℕ → Type 0
BeginsDeep groups bytes =
    (start : List ℕ) × (rest : List ℕ) × (number : ℕ) × (bytes ≡ start ++ rest)
    × IsItem (Holds (record { number = number; payload = Group })) start × (length groups ≡ 64)

-- what the tail after a longest run, which leaves these groups open, begins with
abbrev pub HasKind : WireKind → List ℕ → List ℕ → Type 0
HasKind LongVarint groups tail = BeginsLong tail ⊎ BeginsLongPayload tail
HasKind BadTag groups tail = BeginsUnsound tail
HasKind BadGroup groups tail = BeginsEnd groups tail
HasKind DeepGroup groups tail = BeginsDeep groups tail
-- otherwise it is empty or ends inside an item
HasKind Truncated groups tail =
    ¬ (BeginsLong tail ⊎ BeginsLongPayload tail) × ¬ BeginsUnsound tail × ¬ BeginsEnd groups tail
    × ¬ BeginsDeep groups tail

-- the longest run that the bytes begin with, and the tail after it
pub record IsLongestRun (bytes run tail groups : List ℕ) : Type 0 where
  pub joined : bytes ≡ run ++ tail
  pub is_run : IsRun run groups
  pub longest : (other rest others : List ℕ) → bytes ≡ other ++ rest → IsRun other others → length other ≤ length run

-- the bytes begin with no field
abbrev pub BeginsNone : List ℕ → Type 0
BeginsNone bytes =
    (field : WireField) (first rest : List ℕ) → bytes ≡ first ++ rest → IsSpelling 64 field first → ⊥

-- the bytes begin with no field, and the kind is that of the tail after their longest run
pub record IsBreak (bytes : List ℕ) (kind : WireKind) : Type 0 where
  pub none : BeginsNone bytes
  pub run : List ℕ
  pub tail : List ℕ
  pub groups : List ℕ
  pub longest : IsLongestRun bytes run tail groups
  pub kind_is : HasKind kind groups tail

-- the bytes break at this place: those before it are a list of fields, and those from there on, which are some, break
pub record IsBroken (bytes : List ℕ) (at : ℕ) (kind : WireKind) : Type 0 where
  pub front : List ℕ
  pub rest : List ℕ
  pub joined : bytes ≡ front ++ rest
  pub place : length front ≡ at
  pub fields : List WireField
  pub read : AreFields front fields
  pub some : rest ≢ []
  pub breaks : IsBreak rest kind
