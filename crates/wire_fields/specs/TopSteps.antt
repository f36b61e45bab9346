-- How the reader of a feed's top level goes on, as its private functions are told. No public contract cites it.
use Rattle.std.specs.Prelude.{◌≡◌, ◌≢◌, ℕ, ◌≤◌, ◌==◌, if◌then◌else◌, List, [], length, Option, Some, None, Err}
use Rattle.gw_base.specs.declared.wire_kind.WireKind.{WireKind}
use Rattle.gw_base.specs.declared.wire_kind.WireKind.TheVariants.{Truncated, BadGroup, DeepGroup}
use Rattle.wire_fields.specs.declared.top.chain.Chained.{Chained}
use Rattle.wire_fields.specs.declared.top.chain.Chained.TheVariants as chained
use Rattle.wire_fields.specs.declared.top.event.TopEvent.{TopEvent}
use Rattle.wire_fields.specs.declared.top.event.TopEvent.TheVariants as events
use Rattle.wire_fields.specs.declared.top.part.Part.{Part}
use Rattle.wire_fields.specs.declared.top.part.Part.TheVariants as parts
use Rattle.wire_fields.specs.declared.top.turn.Turn.{Turn}
use Rattle.wire_fields.specs.declared.top.turn.Turn.TheVariants as turns
use Rattle.wire_fields.specs.Grammar.{Payload, Bytes, Group, Ends, IsVarint, IsItem}
use Rattle.wire_fields.specs.Breaks.{open_after_field, open_after_end, BeginsLong, IsBroken}
use Rattle.wire_fields.specs.Reading.{holding, item_at}
use Rattle.wire_fields.specs.TopReading.{IsBegun, IsTagged, IsSized, IsPart, IsInBounds, Top, StandsFor, Elsewhere, place_in, place_of, HasBegun, HasOther}

-- ---- numbers

-- what the bytes of a number came to
abbrev pub Chains : Chained → List ℕ → Type 0
Chains (chained.Whole value) bytes = IsVarint bytes value
Chains (chained.More chain) bytes = (1 ≤ chain.count) × IsBegun chain bytes
Chains chained.Long bytes = BeginsLong bytes

abbrev pub IsFew : Chained → Type 0
IsFew (chained.Whole value) = Unit {0}
IsFew (chained.More chain) = chain.count ≤ 9
IsFew chained.Long = Unit {0}

-- ---- items

-- a field that is one item and holds no bytes
abbrev pub IsPlain : List ℕ → Type 0
IsPlain bytes =
    (number : ℕ) × (payload : Payload) × IsItem (holding number payload) bytes × (payload ≢ Group)
    × ((body : List ℕ) → payload ≢ Bytes body)

-- what the bytes of an item came to
abbrev pub Turns : Turn → List ℕ → Type 0
Turns (turns.Open part) bytes = IsPart part bytes × (place_in [] part ≡ Elsewhere)
Turns (turns.Sized number len) bytes = IsTagged number 2 (IsSized len (λ rest. rest ≡ [])) bytes
Turns turns.Whole bytes = IsPlain bytes
Turns (turns.Starts number) bytes = IsItem (holding number Group) bytes
Turns (turns.Ends number) bytes = IsItem (Ends number) bytes
Turns (turns.Fault kind) bytes = (item_at bytes ≡ Err kind) × (kind ≢ Truncated)

abbrev pub IsTurnInBounds : Turn → Type 0
IsTurnInBounds (turns.Open part) = IsInBounds part
IsTurnInBounds (turns.Sized number len) = Unit {0}
IsTurnInBounds turns.Whole = Unit {0}
IsTurnInBounds (turns.Starts number) = Unit {0}
IsTurnInBounds (turns.Ends number) = Unit {0}
IsTurnInBounds (turns.Fault kind) = Unit {0}

-- ---- the reader

-- another part
abbrev pub with_part : Top → Part → Top
with_part top part = record { taken = top.taken; at = top.at; groups = top.groups; part = part }

-- other groups, and nothing of an item
abbrev pub with_groups : Top → List ℕ → Top
with_groups top groups = record { taken = top.taken; at = top.at; groups = groups; part = parts.Nothing }

-- so many more bytes were taken
abbrev pub with_taken : Top → ℕ → Top
with_taken top taken = record { taken = taken; at = top.at; groups = top.groups; part = top.part }

-- a field ended: where no group is open, it is one of the top level
abbrev pub after_field : Top → Top
after_field top =
    record {
      taken = top.taken;
      at = if length top.groups == 0 then top.taken else top.at;
      groups = top.groups;
      part = parts.Nothing;
    }

-- so many bytes of the payload that is open are left
abbrev pub passed : Top → ℕ → ℕ → ℕ → Top
passed top number len left = if left == 0 then after_field top else with_part top (parts.Payload number len left)

-- what is told where a field ended
abbrev pub other : List ℕ → Option TopEvent
other groups = if length groups == 0 then Some events.Other else None

-- the bytes break at the open field
abbrev pub broken : Top → WireKind → Option TopEvent
broken top kind = Some (events.Broken (record { at = top.at; kind = kind }))

abbrev pub opened : Top → Option (List ℕ) → Option TopEvent × Top
opened top (Some groups) = (None, with_groups top groups)
opened top None = (broken top DeepGroup, top)

abbrev pub closed : Top → Option (List ℕ) → Option TopEvent × Top
closed top (Some groups) = (other groups, after_field (with_groups top groups))
closed top None = (broken top BadGroup, top)

abbrev pub sized : Top → ℕ → ℕ → Option TopEvent × Top
sized top number len = (
  if length top.groups == 0 then Some (events.Begin number top.at len) else None,
  passed top number len len,
)

-- what is told where an item came to this, and the reader after it
abbrev pub turned : Top → Turn → Option TopEvent × Top
turned top (turns.Open part) = (None, with_part top part)
turned top (turns.Sized number len) = sized top number len
turned top turns.Whole = (other top.groups, after_field top)
turned top (turns.Starts number) = opened top (open_after_field top.groups number Group)
turned top (turns.Ends number) = closed top (open_after_end top.groups number)
turned top (turns.Fault kind) = (broken top kind, top)

-- what is known where a reader went on, and stands for these bytes
abbrev pub Turned : Option TopEvent → Top → Top → List ℕ → Type 0
Turned None old new now = StandsFor new now × (place_of new ≡ Elsewhere) × (new.at ≡ old.at)
Turned (Some events.More) old new now = ⊥
Turned (Some (events.Begin number at len)) old new now = (at ≡ old.at) × HasBegun number at len new now
Turned (Some events.Part) old new now = ⊥
Turned (Some events.Other) old new now = HasOther old.at new now
Turned (Some (events.Broken fault)) old new now =
    (fault.at ≡ old.at) × IsBroken now fault.at fault.kind × (fault.kind ≢ Truncated)
