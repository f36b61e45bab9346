-- Which bytes are which fields: the wire format of protobuf (protobuf encoding, "Base 128 Varints", "Message
-- Structure", "Length-Delimited Records", "Groups"). It speaks of spellings and not of a place of reading. Where the
-- standard leaves it open, it is this project's choice: spellings longer than need be, bits past 64, tags past 32 bits,
-- and how deep groups may stand in one another.
use Rattle.std.specs.Prelude.{◌≡◌, ℕ, zero, suc, ◌+◌, ◌*◌, ◌/◌, ◌%◌, ◌^◌, ◌<◌, ◌≤◌, List, [], ◌∷◌, ◌++◌, length, take, slice_range}
use Rattle.std.specs.Int.{w32, w64, from_le_bytes}

-- what a field holds; a group with all that it holds is one field, whose content is not read
pub data Payload : Type 0 where
  Varint : ℕ → Payload
  Fixed64 : ℕ → Payload
  Bytes : List ℕ → Payload
  Group : Payload
  Fixed32 : ℕ → Payload

-- a field: its number, and what it holds
pub record WireField : Type 0 where
  pub number : ℕ
  pub payload : Payload

-- each byte has its high bit set but the last, which has not
abbrev pub IsChain : List ℕ → Type 0
IsChain [] = ⊥
IsChain (byte ∷ []) = byte < 128
IsChain (byte ∷ next ∷ bytes) = (128 ≤ byte) × IsChain (next ∷ bytes)

-- the number that the low seven bits of each byte make, the first the least
abbrev pub number_of : List ℕ → ℕ
number_of [] = 0
number_of (byte ∷ bytes) = byte % 128 + 128 * number_of bytes

-- a spelling of a number, the shortest or not: at most ten bytes, of which bits past 64 are dropped
pub record IsVarint (bytes : List ℕ) (value : ℕ) : Type 0 where
  pub chain : IsChain bytes
  pub short : length bytes ≤ 10
  pub value_is : value ≡ number_of bytes % 2 ^ 64

-- the wire type of what a field holds; the end of a group has type 4
abbrev pub type_of : Payload → ℕ
type_of (Varint value) = 0
type_of (Fixed64 value) = 1
type_of (Bytes body) = 2
type_of Group = 3
type_of (Fixed32 value) = 5

-- the bytes after the tag; a group's start has none
abbrev pub IsPayload : Payload → List ℕ → Type 0
IsPayload (Varint value) bytes = IsVarint bytes value
IsPayload (Fixed64 value) bytes = (length bytes ≡ 8) × (value ≡ from_le_bytes w64 bytes)
IsPayload (Bytes body) bytes = (size : List ℕ) × IsVarint size (length body) × (bytes ≡ size ++ body)
IsPayload Group bytes = bytes ≡ []
IsPayload (Fixed32 value) bytes = (length bytes ≡ 4) × (value ≡ from_le_bytes w32 bytes)

-- a tag with its payload: a field, which of a group is its start alone, or the end of a group of this number
pub data Item : Type 0 where
  Holds : WireField → Item
  Ends : ℕ → Item

-- its field number
abbrev pub number_of_item : Item → ℕ
number_of_item (Holds field) = field.number
number_of_item (Ends number) = number

-- its wire type
abbrev pub type_of_item : Item → ℕ
type_of_item (Holds field) = type_of field.payload
type_of_item (Ends number) = 4

-- the bytes after its tag
abbrev pub IsItemPayload : Item → List ℕ → Type 0
IsItemPayload (Holds field) bytes = IsPayload field.payload bytes
IsItemPayload (Ends number) bytes = bytes ≡ []

-- its tag: the number times 8, and the type
abbrev pub tag_of : Item → ℕ
tag_of item = number_of_item item * 8 + type_of_item item

-- at most 32 bits, a number above 0, and a type from 0 to 5
pub record IsSoundTag (tag : ℕ) : Type 0 where
  pub bits : tag < 2 ^ 32
  pub number : 0 < tag / 8
  pub type : tag % 8 ≤ 5

-- a spelling of an item: its tag, which is sound, and its payload
pub record IsItem (item : Item) (bytes : List ℕ) : Type 0 where
  pub tag : List ℕ
  pub payload : List ℕ
  pub joined : bytes ≡ tag ++ payload
  pub tagged : IsVarint tag (tag_of item)
  pub sound : IsSoundTag (tag_of item)
  pub paid : IsItemPayload item payload

-- the bytes are spellings of these, one after the other
abbrev pub Concatenates : {X : Type 0} → (X → List ℕ → Type 0) → List X → List ℕ → Type 0
Concatenates Spells [] bytes = bytes ≡ []
Concatenates Spells (x ∷ xs) bytes =
    (first : List ℕ) × (rest : List ℕ) × (bytes ≡ first ++ rest) × Spells x first × Concatenates Spells xs rest

-- a group: its start, a list of fields, and the end of the same number
pub record IsGroup (Spells : WireField → List ℕ → Type 0) (number : ℕ) (bytes : List ℕ) : Type 0 where
  pub start : List ℕ
  pub inside : List ℕ
  pub end : List ℕ
  pub joined : bytes ≡ start ++ inside ++ end
  pub starts : IsItem (Holds (record { number = number; payload = Group })) start
  pub fields : List WireField
  pub holds : Concatenates Spells fields inside
  pub ends : IsItem (Ends number) end

-- a field's spelling, where it is said what spells a group of a number; each other field is one item
abbrev pub IsFieldWith : (ℕ → List ℕ → Type 0) → ℕ → Payload → List ℕ → Type 0
IsFieldWith SpellsGroup number Group bytes = SpellsGroup number bytes
IsFieldWith SpellsGroup number (Varint value) bytes =
    IsItem (Holds (record { number = number; payload = Varint value })) bytes
IsFieldWith SpellsGroup number (Fixed64 value) bytes =
    IsItem (Holds (record { number = number; payload = Fixed64 value })) bytes
IsFieldWith SpellsGroup number (Bytes body) bytes =
    IsItem (Holds (record { number = number; payload = Bytes body })) bytes
IsFieldWith SpellsGroup number (Fixed32 value) bytes =
    IsItem (Holds (record { number = number; payload = Fixed32 value })) bytes

-- a group where so many groups may be open at once, itself among them
unfoldable pub IsGroupWithin : ℕ → ℕ → List ℕ → Type 0
IsGroupWithin zero number bytes = ⊥
IsGroupWithin (suc room) number bytes =
    IsGroup (λ field bytes. IsFieldWith (IsGroupWithin room) field.number field.payload bytes) number bytes

-- a spelling of a field where so many groups may be open at once
abbrev pub IsSpelling : ℕ → WireField → List ℕ → Type 0
IsSpelling room field bytes = IsFieldWith (IsGroupWithin room) field.number field.payload bytes

-- the bytes are a list of fields, with at most 64 groups open at once
abbrev pub AreFields : List ℕ → List WireField → Type 0
AreFields bytes fields = Concatenates (IsSpelling 64) fields bytes

-- the bytes begin with a spelling of the field, and the rest stands after it
abbrev pub BeginsField : List ℕ → WireField → List ℕ → Type 0
BeginsField bytes field rest = (spelling : List ℕ) × (bytes ≡ spelling ++ rest) × IsSpelling 64 field spelling

-- the bytes from one place to the next are a spelling of the field
pub record IsNext (bytes : List ℕ) (at next : ℕ) (field : WireField) : Type 0 where
  pub spelled : IsSpelling 64 field (slice_range bytes at next)
  pub further : at < next
  pub within : next ≤ length bytes

-- where the bytes up to one place are a list of fields, those up to the next are that list and the field
abbrev pub Continues : List ℕ → ℕ → ℕ → WireField → Type 0
Continues bytes at next field =
    (fields : List WireField) → AreFields (take at bytes) fields → AreFields (take next bytes) (fields ++ field ∷ [])

-- the bytes begin with a spelling of the number, and the rest stands after it
abbrev pub BeginsNumber : List ℕ → ℕ → List ℕ → Type 0
BeginsNumber bytes value rest = (spelling : List ℕ) × (bytes ≡ spelling ++ rest) × IsVarint spelling value
