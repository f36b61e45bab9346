-- Which fault bytes have that are read as a feed. The public standard leaves it open which of several faults is told:
-- it is this project's choice to tell the one of least place, and at one place the first of the kinds as they stand
-- below.
use Rattle.std.specs.Prelude.{◌≡◌, ℕ, ◌+◌, ◌*◌, ◌<◌, ◌≤◌, List, [], ◌++◌, length, Option, Some, None, IsUtf8, ◌⊎◌}
use Rattle.gw_base.specs.declared.required.Required.{Required}
use Rattle.gw_base.specs.declared.required.Required.TheVariants.{Header, GtfsRealtimeVersion, Id, Trip, Text}
use Rattle.wire_fields.specs.Grammar.{Bytes, WireField, IsVarint, IsSpelling, AreFields}
use Rattle.wire_fields.specs.Breaks.{IsBroken}
use Rattle.feed_reading.specs.declared.fault.FeedFault.{FeedFault}
use Rattle.feed_reading.specs.declared.fault.FeedFault.TheVariants as faults
use Rattle.feed_reading.specs.Limits.{entity_limit}
use Rattle.feed_reading.specs.Meaning.{bodies}
use Rattle.feed_reading.specs.Known.{Known, Nothing, WithText, WithMessage, WithMessages, feed_known}

-- a piece of a message: where its tag stands and where its bytes begin, counted from the feed's first byte, and the
-- bytes
pub record Piece : Type 0 where
  pub tag : ℕ
  pub start : ℕ
  pub bytes : List ℕ

-- the whole feed is a piece
abbrev pub whole : List ℕ → Piece
whole bytes = record { tag = 0; start = 0; bytes = bytes }

-- one piece stands in another as a field of this number: what stands before it there is a list of fields
pub record Stands (outer : Piece) (number : ℕ) (inner : Piece) : Type 0 where
  pub front : List ℕ
  pub spelling : List ℕ
  pub rest : List ℕ
  pub joined : outer.bytes ≡ front ++ (spelling ++ rest)
  pub fields : List WireField
  pub read : AreFields front fields
  pub spelled : IsSpelling 64 (record { number = number; payload = Bytes inner.bytes }) spelling
  pub tag : inner.tag ≡ outer.start + length front
  pub start : inner.start + length inner.bytes ≡ inner.tag + length spelling

-- a message is told by which pieces it has. These are the pieces that stand in those of a message as fields of a
-- number, and a piece alone
abbrev pub Inside : ℕ → (Piece → Type 0) → Piece → Type 0
Inside number Message inner = (outer : Piece) × Message outer × Stands outer number inner

abbrev pub Only : Piece → Piece → Type 0
Only piece other = other ≡ piece

-- one of the pieces has the fault
abbrev pub InSome : (Piece → Type 0) → (Piece → FeedFault → Type 0) → FeedFault → Type 0
InSome Message Has fault = (piece : Piece) × Message piece × Has piece fault

-- a piece breaks at this place
abbrev pub IsTorn : Piece → FeedFault → Type 0
IsTorn piece (faults.Wire fault) = (at : ℕ) × IsBroken piece.bytes at fault.kind × (fault.at ≡ piece.start + at)
IsTorn piece (faults.EntityTooLong at) = ⊥
IsTorn piece (faults.NotText at) = ⊥
IsTorn piece (faults.MissingField at name) = ⊥
IsTorn piece faults.Memory = ⊥

-- a text isn't UTF-8: told at its tag
abbrev pub IsNotText : Piece → FeedFault → Type 0
IsNotText piece (faults.NotText at) = (at ≡ piece.tag) × ¬ IsUtf8 piece.bytes
IsNotText piece (faults.EntityTooLong at) = ⊥
IsNotText piece (faults.Wire fault) = ⊥
IsNotText piece (faults.MissingField at name) = ⊥
IsNotText piece faults.Memory = ⊥

-- a piece is a list of fields, and has none with bytes of this number
abbrev pub Lacks : ℕ → Piece → Type 0
Lacks number piece = (fields : List WireField) × AreFields piece.bytes fields × (bodies number fields ≡ [])

-- a message has pieces, all of which lack the field; its first tag is this one
pub record IsLacking (number : ℕ) (Message : Piece → Type 0) (first : ℕ) : Type 0 where
  pub piece : Piece
  pub among : Message piece
  pub here : first ≡ piece.tag
  pub least : (other : Piece) → Message other → first ≤ other.tag
  pub lacks : (other : Piece) → Message other → Lacks number other

-- where it is told that a field is missing: at the message's first tag, or for the header and its version at the end of
-- the feed
abbrev pub missing_place : Required → ℕ → ℕ → ℕ
missing_place Header first end = end
missing_place GtfsRealtimeVersion first end = end
missing_place Id first end = first
missing_place Trip first end = first
missing_place Text first end = first

abbrev pub IsMissing : ℕ → Option Required → (Piece → Type 0) → ℕ → FeedFault → Type 0
IsMissing number None Message end fault = ⊥
IsMissing number (Some name) Message end (faults.MissingField at missed) =
    (first : ℕ) × IsLacking number Message first × (missed ≡ name) × (at ≡ missing_place name first end)
IsMissing number (Some name) Message end (faults.EntityTooLong at) = ⊥
IsMissing number (Some name) Message end (faults.Wire fault) = ⊥
IsMissing number (Some name) Message end (faults.NotText at) = ⊥
IsMissing number (Some name) Message end faults.Memory = ⊥

-- the faults of the known fields of a message in a feed of this length
abbrev pub HasFaultIn : Known → (Piece → Type 0) → ℕ → FeedFault → Type 0
HasFaultIn Nothing Message end fault = ⊥
HasFaultIn (WithText number name others) Message end fault =
    (InSome (Inside number Message) IsNotText fault ⊎ IsMissing number name Message end fault)
    ⊎ HasFaultIn others Message end fault
-- of a message, all pieces together
HasFaultIn (WithMessage number name inner others) Message end fault =
    ((InSome (Inside number Message) IsTorn fault ⊎ HasFaultIn inner (Inside number Message) end fault)
    ⊎ IsMissing number name Message end fault)
    ⊎ HasFaultIn others Message end fault
-- of messages that repeat, each piece by itself
HasFaultIn (WithMessages number inner others) Message end fault =
    InSome (Inside number Message) (λ piece fault. IsTorn piece fault ⊎ HasFaultIn inner (Only piece) end fault) fault
    ⊎ HasFaultIn others Message end fault

-- an entity's stated length is over the limit, whether its bytes are there or not: after a list of fields stand the
-- tag of a field 2 with bytes, and such a length
pub record IsLongAt (bytes : List ℕ) (at : ℕ) : Type 0 where
  pub front : List ℕ
  pub tag : List ℕ
  pub size : List ℕ
  pub rest : List ℕ
  pub joined : bytes ≡ front ++ (tag ++ (size ++ rest))
  pub fields : List WireField
  pub read : AreFields front fields
  pub tagged : IsVarint tag 18
  pub len : ℕ
  pub sized : IsVarint size len
  pub long : entity_limit < len
  pub place : at ≡ length front

abbrev pub IsTooLong : List ℕ → FeedFault → Type 0
IsTooLong bytes (faults.EntityTooLong at) = IsLongAt bytes at
IsTooLong bytes (faults.Wire fault) = ⊥
IsTooLong bytes (faults.NotText at) = ⊥
IsTooLong bytes (faults.MissingField at name) = ⊥
IsTooLong bytes faults.Memory = ⊥

-- all faults of the bytes
abbrev pub HasFault : List ℕ → FeedFault → Type 0
HasFault bytes fault =
    IsTooLong bytes fault
    ⊎ (IsTorn (whole bytes) fault ⊎ HasFaultIn feed_known (Only (whole bytes)) (length bytes) fault)

-- faults in order: by their places, and at one place by their kinds
abbrev pub order : FeedFault → ℕ
order (faults.EntityTooLong at) = at * 4
order (faults.Wire fault) = fault.at * 4 + 1
order (faults.NotText at) = at * 4 + 2
order (faults.MissingField at name) = at * 4 + 3
order faults.Memory = 0

-- there is this fault, if there is one, and none before it
abbrev pub IsLeast : (FeedFault → Type 0) → Option FeedFault → Type 0
IsLeast Has None = (other : FeedFault) → ¬ Has other
IsLeast Has (Some fault) = Has fault × ((other : FeedFault) → Has other → order fault ≤ order other)

-- the fault that is told
abbrev pub IsFeedFault : List ℕ → FeedFault → Type 0
IsFeedFault bytes fault = IsLeast (HasFault bytes) (Some fault)

-- what a reader answers in place of a feed: the fault, or that memory ran out
abbrev pub IsTold : List ℕ → FeedFault → Type 0
IsTold bytes (faults.EntityTooLong at) = IsFeedFault bytes (faults.EntityTooLong at)
IsTold bytes (faults.Wire fault) = IsFeedFault bytes (faults.Wire fault)
IsTold bytes (faults.NotText at) = IsFeedFault bytes (faults.NotText at)
IsTold bytes (faults.MissingField at name) = IsFeedFault bytes (faults.MissingField at name)
IsTold bytes faults.Memory = Unit {0}
