-- How the faults of parts are put together, as the private functions are told.
use Rattle.std.specs.Prelude.{◌≡◌, ℕ, ◌<◌, List, [], ◌∷◌, ◌++◌, Option, Some, None, nat_le, if◌then◌else◌, ◌⊎◌}
use Rattle.wire_fields.specs.Grammar.{IsVarint}
use Rattle.feed_reading.specs.declared.fault.FeedFault.{FeedFault}
use Rattle.feed_reading.specs.Faults.{Piece, order}
use Rattle.feed_reading.specs.Limits.{entity_limit}

-- the earlier one of two faults
abbrev pub earlier_of : Option FeedFault → Option FeedFault → Option FeedFault
earlier_of None b = b
earlier_of (Some a) None = Some a
earlier_of (Some a) (Some b) = if nat_le (order a) (order b) then Some a else Some b

-- a message of which the pieces are listed
abbrev pub Among : List Piece → Piece → Type 0
Among [] piece = ⊥
Among (first ∷ others) piece = (piece ≡ first) ⊎ Among others piece

-- two messages have the same pieces
pub record SameSet (M N : Piece → Type 0) : Type 0 where
  pub to : (p : Piece) → M p → N p
  pub back : (p : Piece) → N p → M p

-- the tag of an entity and a length over the limit stand at the front
pub record IsLongHere (bytes : List ℕ) : Type 0 where
  pub tag : List ℕ
  pub size : List ℕ
  pub rest : List ℕ
  pub joined : bytes ≡ tag ++ (size ++ rest)
  pub tagged : IsVarint tag 18
  pub len : ℕ
  pub sized : IsVarint size len
  pub long : entity_limit < len
