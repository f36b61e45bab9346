-- What a reader of a feed's top level stands for: all the bytes that it took, in whatever pieces.
use Rattle.std.specs.Prelude.{◌≡◌, ◌≢◌, ℕ, ◌+◌, ◌-◌, ◌*◌, ◌<◌, ◌≤◌, ◌==◌, if◌then◌else◌, List, [], ◌∷◌, ◌++◌, length, take, Option, Some, None}
use Rattle.std.specs.List.{AllByRecursion}
use Rattle.gw_base.specs.declared.wire_kind.WireKind.TheVariants.{Truncated}
use Rattle.wire_fields.specs.declared.field.WireFault.{WireFault}
use Rattle.wire_fields.specs.declared.top.event.Step.{Step}
use Rattle.wire_fields.specs.declared.top.event.TopEvent.{TopEvent}
use Rattle.wire_fields.specs.declared.top.event.TopEvent.TheVariants as events
use Rattle.wire_fields.specs.declared.top.part.Chain.{Chain}
use Rattle.wire_fields.specs.declared.top.part.Part.{Part}
use Rattle.wire_fields.specs.declared.top.part.Part.TheVariants as parts
use Rattle.wire_fields.specs.Grammar.{Bytes, WireField, number_of, IsVarint, IsSoundTag, IsSpelling, AreFields}
use Rattle.wire_fields.specs.Breaks.{IsBroken}
use Rattle.wire_fields.specs.OpenGroups.{IsWalked}

-- ---- a part of an item

-- the bytes of a number but for its last ones: at most nine, each with the high bit set
pub record IsBegun (chain : Chain) (bytes : List ℕ) : Type 0 where
  pub counted : length bytes ≡ chain.count
  pub few : chain.count ≤ 9
  pub high : AllByRecursion (λ byte. 128 ≤ byte) bytes
  pub value_is : chain.value ≡ number_of bytes

-- a tag of this field number and wire type, which is sound
abbrev pub IsTag : ℕ → ℕ → List ℕ → Type 0
IsTag number type tag = IsVarint tag (number * 8 + type) × IsSoundTag (number * 8 + type)

-- a tag of this field number and wire type, and what stands after it
abbrev pub IsTagged : ℕ → ℕ → (List ℕ → Type 0) → List ℕ → Type 0
IsTagged number type IsRest bytes =
    (tag : List ℕ) × (rest : List ℕ) × (bytes ≡ tag ++ rest) × IsTag number type tag × IsRest rest

-- so many bytes but for those that are left, which are some
abbrev pub LacksSome : ℕ → ℕ → List ℕ → Type 0
LacksSome len left bytes = (length bytes + left ≡ len) × (0 < left)

-- the spelling of a length, and what stands after it
abbrev pub IsSized : ℕ → (List ℕ → Type 0) → List ℕ → Type 0
IsSized len IsRest bytes =
    (size : List ℕ) × (rest : List ℕ) × (bytes ≡ size ++ rest) × IsVarint size len × IsRest rest

-- the bytes are this part of an item
abbrev pub IsPart : Part → List ℕ → Type 0
IsPart parts.Nothing bytes = bytes ≡ []
IsPart (parts.Tag chain) bytes = (1 ≤ chain.count) × IsBegun chain bytes
IsPart (parts.Value chain) bytes = (number : ℕ) × IsTagged number 0 (IsBegun chain) bytes
IsPart (parts.Size number chain) bytes = IsTagged number 2 (IsBegun chain) bytes
IsPart (parts.Payload number len left) bytes = IsTagged number 2 (IsSized len (LacksSome len left)) bytes
IsPart (parts.Eight left) bytes = (number : ℕ) × IsTagged number 1 (LacksSome 8 left) bytes
IsPart (parts.Four left) bytes = (number : ℕ) × IsTagged number 5 (LacksSome 4 left) bytes

-- what is so of each part, whatever the bytes
abbrev pub IsInBounds : Part → Type 0
IsInBounds parts.Nothing = Unit {0}
IsInBounds (parts.Tag chain) = chain.count ≤ 9
IsInBounds (parts.Value chain) = chain.count ≤ 9
IsInBounds (parts.Size number chain) = chain.count ≤ 9
IsInBounds (parts.Payload number len left) = 0 < left
IsInBounds (parts.Eight left) = 0 < left
IsInBounds (parts.Four left) = 0 < left

-- ---- what the reader stands for

-- what is known of a reader: how many bytes it took, how many of them are whole fields, the numbers of the groups that
-- are open (the innermost first), and which part of an item stands after them
pub record Top : Type 0 where
  pub taken : ℕ
  pub at : ℕ
  pub groups : List ℕ
  pub part : Part

-- whole fields up to a place, then what leaves these groups open, and then a tail
pub record Stands (at : ℕ) (groups : List ℕ) (IsTail : List ℕ → Type 0) (bytes : List ℕ) : Type 0 where
  pub front : List ℕ
  pub run : List ℕ
  pub tail : List ℕ
  pub fields : List WireField
  pub joined : bytes ≡ front ++ (run ++ tail)
  pub read : AreFields front fields
  pub place : at ≡ length front
  pub walked : IsWalked groups run
  pub ends : IsTail tail

-- the reader stands for these bytes
abbrev pub StandsFor : Top → List ℕ → Type 0
StandsFor top bytes = (top.taken ≡ length bytes) × Stands top.at top.groups (IsPart top.part) bytes

-- where a reader stands: between two fields; in the payload of a field of the top level, of this number and length, of
-- which so many bytes are left; or anywhere else in a field
pub data Place : Type 0 where
  Between : Place
  InField : ℕ → ℕ → ℕ → Place
  Elsewhere : Place

abbrev pub place_in : List ℕ → Part → Place
place_in [] parts.Nothing = Between
place_in [] (parts.Payload number len left) = InField number len left
place_in [] (parts.Tag chain) = Elsewhere
place_in [] (parts.Value chain) = Elsewhere
place_in [] (parts.Size number chain) = Elsewhere
place_in [] (parts.Eight left) = Elsewhere
place_in [] (parts.Four left) = Elsewhere
place_in (number ∷ groups) part = Elsewhere

abbrev pub place_of : Top → Place
place_of top = place_in top.groups top.part

-- the place where so many bytes of a field's payload are left
abbrev pub place_left : ℕ → ℕ → ℕ → Place
place_left number len left = if left == 0 then Between else InField number len left

abbrev pub IsInNoField : Top → Type 0
IsInNoField top = (number len left : ℕ) → place_of top ≢ InField number len left

-- ---- what a step says

-- the bytes are whole fields up to a place, and then this field's spelling
pub record EndsWith (field : WireField) (at : ℕ) (now : List ℕ) : Type 0 where
  pub front : List ℕ
  pub spelling : List ℕ
  pub fields : List WireField
  pub joined : now ≡ front ++ spelling
  pub read : AreFields front fields
  pub place : at ≡ length front
  pub spelled : IsSpelling 64 field spelling

-- the bytes are whole fields up to a place, and then the tag and the length of a field
pub record EndsWithLength (number at len : ℕ) (now : List ℕ) : Type 0 where
  pub front : List ℕ
  pub tag : List ℕ
  pub size : List ℕ
  pub fields : List WireField
  pub joined : now ≡ front ++ (tag ++ size)
  pub read : AreFields front fields
  pub place : at ≡ length front
  pub tagged : IsVarint tag (number * 8 + 2)
  pub sound : IsSoundTag (number * 8 + 2)
  pub sized : IsVarint size len

-- the bytes end with the payload of a field that ends here
abbrev pub EndsWithBytes : ℕ → ℕ → ℕ → List ℕ → Type 0
EndsWithBytes number len at now =
    (front : List ℕ) × (body : List ℕ) × (now ≡ front ++ body) × (length body ≡ len)
    × EndsWith (record { number = number; payload = Bytes body }) at now

-- all of the piece was used, and the open field goes on
pub record HasMore (old new : Top) (now : List ℕ) : Type 0 where
  pub stands : StandsFor new now
  pub was : IsInNoField old
  pub elsewhere : place_of new ≡ Elsewhere
  pub stays : new.at ≡ old.at

-- a tag and a length were read, of a field that stands at this place
pub record HasBegun (number at len : ℕ) (new : Top) (now : List ℕ) : Type 0 where
  pub stands : StandsFor new now
  pub begun : EndsWithLength number at len now
  pub goes_on : place_of new ≡ place_left number len len
  pub stays : 0 < len → new.at ≡ at
  pub ended : len ≡ 0 → EndsWithBytes number len at now

-- so many bytes of the payload of a field were read
pub record HasPart (used : ℕ) (old new : Top) (now : List ℕ) : Type 0 where
  pub stands : StandsFor new now
  pub number : ℕ
  pub len : ℕ
  pub left : ℕ
  pub was : place_of old ≡ InField number len left
  pub within : used ≤ left
  pub goes_on : place_of new ≡ place_left number len (left - used)
  pub stays : used < left → new.at ≡ old.at
  pub ended : used ≡ left → EndsWithBytes number len old.at now

-- another field ended, which stands at this place and holds no bytes
pub record HasOther (at : ℕ) (new : Top) (now : List ℕ) : Type 0 where
  pub stands : StandsFor new now
  pub between : place_of new ≡ Between
  pub field : WireField
  pub ended : EndsWith field at now
  pub plain : (body : List ℕ) → field.payload ≢ Bytes body

-- what an event says of the bytes so far, of which so many came from this piece
abbrev pub Tells : TopEvent → ℕ → List ℕ → Top → Top → List ℕ → Type 0
Tells events.More used piece old new now = (used ≡ length piece) × HasMore old new now
Tells (events.Begin number at len) used piece old new now =
    IsInNoField old × (at ≡ old.at) × HasBegun number at len new now
Tells events.Part used piece old new now = HasPart used old new now
Tells events.Other used piece old new now = IsInNoField old × HasOther old.at new now
Tells (events.Broken fault) used piece old new now =
    (fault.at ≡ old.at) × IsBroken now fault.at fault.kind × (fault.kind ≢ Truncated)

-- what a step says, whose reader stood for these bytes
abbrev pub Says : List ℕ → List ℕ → Step → Top → Top → Type 0
Says bytes piece step old new = Tells step.event step.used piece old new (bytes ++ take step.used piece)

-- what the end of the bytes says
abbrev pub SaysAtEnd : List ℕ → Option WireFault → Type 0
SaysAtEnd bytes None = (fields : List WireField) × AreFields bytes fields
SaysAtEnd bytes (Some fault) = IsBroken bytes fault.at fault.kind × (fault.kind ≡ Truncated)
