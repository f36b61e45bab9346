-- Pieces, seen without where their bytes lie in memory, and how they are walked.
use Rattle.std.specs.Prelude.{◌≡◌, ◌≢◌, ℕ, ◌+◌, ◌≤◌, List, [], ◌++◌, map, length, ◌⊎◌, Option, Some, None}
use Rattle.wire_fields.specs.declared.field.WireFault.{WireFault}
use Rattle.wire_fields.specs.Grammar.{Bytes, WireField, IsSpelling}
use Rattle.wire_fields.specs.Breaks.{IsBreak}
use Rattle.feed_reading.specs.declared.finder.piece.Piece.{Piece}
use Rattle.gw_base.specs.declared.required.Required.{Required}
use Rattle.feed_reading.specs.declared.fault.FeedFault.{FeedFault}
use Rattle.feed_reading.specs.Known.{Known}
use Rattle.feed_reading.specs.Faults as faults
use Rattle.feed_reading.specs.Found.{Among, SameSet}

abbrev pub piece_of : Piece → faults.Piece
piece_of piece = record { tag = piece.tag; start = piece.start; bytes = piece.bytes.now }

-- after the first field of a piece, which is this, stands this one
pub record IsFollowed (piece : Piece) (field : WireField) (after : Piece) : Type 0 where
  pub spelling : List ℕ
  pub joined : piece.bytes.now ≡ spelling ++ after.bytes.now
  pub spelled : IsSpelling 64 field spelling
  pub start : after.start ≡ piece.start + length spelling

-- a piece begins with no field
pub record BreaksHere (piece : Piece) (fault : WireFault) : Type 0 where
  pub some : piece.bytes.now ≢ []
  pub breaks : IsBreak piece.bytes.now fault.kind
  pub place : fault.at ≡ 0

-- this piece is a field that stands from one place to another
pub record IsHere (field : WireField) (start end number : ℕ) (inner : faults.Piece) : Type 0 where
  pub is : record { number = number; payload = Bytes inner.bytes } ≡ field
  pub tag : inner.tag ≡ start
  pub start_is : inner.start + length inner.bytes ≡ end

abbrev pub IsPieceAt : WireField → ℕ → ℕ → ℕ → Option Piece → Type 0
IsPieceAt field start end number None = (q : faults.Piece) → ¬ IsHere field start end number q
IsPieceAt field start end number (Some inner) =
    IsHere field start end number (piece_of inner)
    × ((q : faults.Piece) → IsHere field start end number q → q ≡ piece_of inner)

-- the pieces of a list
abbrev pub Listed : List Piece → faults.Piece → Type 0
Listed pieces = Among (map piece_of pieces)

-- where a list so far, with what stands in a rest, is told at the next place
abbrev pub GoesOn : ℕ → List Piece → Piece → List Piece → Piece → Type 0
GoesOn number list rest longer after =
    SameSet (λ q. Listed list q ⊎ faults.Stands (piece_of rest) number q)
    (λ q. Listed longer q ⊎ faults.Stands (piece_of after) number q)

-- a list has these pieces more
abbrev pub Gains : List Piece → List Piece → (faults.Piece → Type 0) → Type 0
Gains old new Others = SameSet (λ q. Listed old q ⊎ Others q) (Listed new)

-- some piece, or none, stands in this as a field of a number
abbrev pub SomeStands : ℕ → Piece → Type 0
SomeStands number piece = (q : faults.Piece) × faults.Stands (piece_of piece) number q

abbrev pub NoneStands : ℕ → Piece → Type 0
NoneStands number piece = (q : faults.Piece) → ¬ faults.Stands (piece_of piece) number q

abbrev pub SomeInside : ℕ → List Piece → Type 0
SomeInside number pieces = (q : faults.Piece) × faults.Inside number (Listed pieces) q

-- the least tag of a list of pieces
pub record IsFirstTag (pieces : List Piece) (first : ℕ) : Type 0 where
  pub piece : faults.Piece
  pub among : Listed pieces piece
  pub here : first ≡ piece.tag
  pub least : (other : faults.Piece) → Listed pieces other → first ≤ other.tag

-- all pieces are lists of fields without one of this number
abbrev pub AllLack : ℕ → List Piece → Type 0
AllLack number pieces = (p : faults.Piece) → Listed pieces p → faults.Lacks number p

-- the faults of a text field; of a message; of a field that is a message; and of one that repeats, in one piece
abbrev pub InText : ℕ → Option Required → (faults.Piece → Type 0) → ℕ → FeedFault → Type 0
InText number name Message end fault =
    faults.InSome (faults.Inside number Message) faults.IsNotText fault ⊎ faults.IsMissing number name Message end fault

abbrev pub InMessage : Known → (faults.Piece → Type 0) → ℕ → FeedFault → Type 0
InMessage known Message end fault = faults.InSome Message faults.IsTorn fault
    ⊎ faults.HasFaultIn known Message end fault

abbrev pub InRequired : Known → ℕ → Option Required → (faults.Piece → Type 0) → ℕ → FeedFault → Type 0
InRequired known number name Message end fault =
    InMessage known (faults.Inside number Message) end fault ⊎ faults.IsMissing number name Message end fault

abbrev pub InEach : Known → ℕ → faults.Piece → FeedFault → Type 0
InEach known end piece fault = faults.IsTorn piece fault ⊎ faults.HasFaultIn known (faults.Only piece) end fault
