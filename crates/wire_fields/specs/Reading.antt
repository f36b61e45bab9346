-- Reading from the front of bytes, as the private functions are told: a value and the bytes after it, or what is
-- wrong. No public contract cites it. Each of these is proved to be what the grammar says.
use Rattle.std.specs.Prelude.{◌≡◌, ℕ, zero, suc, ◌+◌, ◌*◌, ◌/◌, ◌%◌, ◌^◌, ◌&&◌, List, [], ◌∷◌, ◌++◌, length, take, drop, Result, Ok, Err, nat_lt, nat_le, if◌then◌else◌}
use Rattle.std.specs.Int.{Width, w32, w64, byte_len, from_le_bytes}
use Rattle.gw_base.specs.Chains.{◌>>=◌}
use Rattle.gw_base.specs.declared.wire_kind.WireKind.{WireKind}
use Rattle.gw_base.specs.declared.wire_kind.WireKind.TheVariants.{Truncated, LongVarint, BadTag, BadGroup, DeepGroup}
use Rattle.wire_fields.specs.Grammar.{Payload, Varint, Fixed64, Bytes, Group, Fixed32, Item, Holds, Ends, IsItem, IsSpelling}
use Rattle.wire_fields.specs.Breaks.{IsBreak}

-- the number of a chain of so many bytes at most
unfoldable pub chain_at : ℕ → List ℕ → Result (ℕ × List ℕ) WireKind
chain_at zero bytes = Err LongVarint
chain_at (suc most) [] = Err Truncated
chain_at (suc most) (byte ∷ bytes) =
    if nat_lt byte 128
    then Ok (byte % 128, bytes)
    else (chain_at most bytes >>= λ rest. Ok (byte % 128 + 128 * rest.0, rest.1))

-- the number at the front, of which bits past 64 are dropped
unfoldable pub varint_at : List ℕ → Result (ℕ × List ℕ) WireKind
varint_at bytes = do
  chain ← chain_at 10 bytes
  Ok (chain.0 % 2 ^ 64, chain.1)

-- so many bytes
unfoldable pub bytes_at : ℕ → List ℕ → Result (List ℕ × List ℕ) WireKind
bytes_at size bytes = if nat_lt (length bytes) size then Err Truncated else Ok (take size bytes, drop size bytes)

-- the number of as many bytes as the width has, the least first
unfoldable pub fixed_at : Width → List ℕ → Result (ℕ × List ℕ) WireKind
fixed_at w bytes =
    if nat_lt (length bytes) (byte_len w)
    then Err Truncated
    else Ok (from_le_bytes w (take (byte_len w) bytes), drop (byte_len w) bytes)

-- the item of a field
abbrev pub holding : ℕ → Payload → Item
holding number payload = Holds (record { number = number; payload = payload })

-- the rest of an item of this number and type
unfoldable pub payload_at : ℕ → ℕ → List ℕ → Result (Item × List ℕ) WireKind
payload_at number zero bytes = do
  value ← varint_at bytes
  Ok (holding number (Varint value.0), value.1)
payload_at number (suc zero) bytes = do
  eight ← fixed_at w64 bytes
  Ok (holding number (Fixed64 eight.0), eight.1)
payload_at number (suc (suc zero)) bytes = do
  size ← varint_at bytes
  body ← bytes_at size.0 size.1
  Ok (holding number (Bytes body.0), body.1)
payload_at number (suc (suc (suc zero))) bytes = Ok (holding number Group, bytes)
payload_at number (suc (suc (suc (suc zero)))) bytes = Ok (Ends number, bytes)
payload_at number (suc (suc (suc (suc (suc zero))))) bytes = do
  four ← fixed_at w32 bytes
  Ok (holding number (Fixed32 four.0), four.1)
payload_at number (suc (suc (suc (suc (suc (suc type)))))) bytes = Err BadTag

-- an item: a tag, and what its type says
unfoldable pub item_at : List ℕ → Result (Item × List ℕ) WireKind
item_at bytes = do
  tag ← varint_at bytes
  if nat_lt tag.0 (2 ^ 32) && nat_le 8 tag.0 then payload_at (tag.0 / 8) (tag.0 % 8) tag.1 else Err BadTag

-- what is wrong where an item can't follow
abbrev pub kind_of_block : Item → WireKind
kind_of_block (Holds field) = DeepGroup
kind_of_block (Ends number) = BadGroup

-- after the start of a group of this number stand these bytes, and after its end the rest
abbrev pub EndsGroup : ℕ → List ℕ → List ℕ → Type 0
EndsGroup number bytes rest =
    (inside : List ℕ) × (bytes ≡ inside ++ rest)
    × ((start : List ℕ) → IsItem (holding number Group) start
    → IsSpelling 64 (record { number = number; payload = Group }) (start ++ inside))

-- after the start of a group of this number the bytes break in this way
abbrev pub BreaksInGroup : ℕ → List ℕ → WireKind → Type 0
BreaksInGroup number bytes kind = (start : List ℕ) → IsItem (holding number Group) start → IsBreak (start ++ bytes) kind

-- what a function returned, seen by view, is what reading gives
abbrev pub Gives : {X Y : Type 0} → (X → Y) → Result X WireKind → Result Y WireKind → Type 0
Gives view (Ok x) read = read ≡ Ok (view x)
Gives view (Err kind) read = read ≡ Err kind
