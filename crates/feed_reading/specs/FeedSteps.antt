-- The steps of a reader of a feed in pieces, as its private functions are told. Of these the reader's type keeps
-- `IsCounted`; no public clause cites another one.
use Rattle.std.specs.Prelude.{◌≡◌, ◌==◌, ◌&&◌, ℕ, pos, ◌+◌, ◌-◌, ◌%◌, ◌^◌, ◌≤◌, ◌⊎◌, List, [], ◌∷◌, ◌++◌, length, Option, Some, None, option_map, unwrap_or, Result, Ok, Err, nat_lt, if◌then◌else◌, MatchBool}
use Rattle.std.specs.Option.{option_or}
use Rattle.std.specs.Int.{w32, cast_signed}
use Rattle.gw_base.specs.declared.required.Required.TheVariants.{Header, GtfsRealtimeVersion}
use Rattle.gw_base.specs.declared.messages.Entity.{Entity}
use Rattle.gw_base.specs.declared.messages.FeedHead.{FeedHead}
use Rattle.wire_fields.specs.TopReading.{Between, Top, place_of}
use Rattle.feed_reading.specs.declared.fault.FeedFault.{FeedFault}
use Rattle.feed_reading.specs.declared.fault.FeedFault.TheVariants.{EntityTooLong, MissingField}
use Rattle.feed_reading.specs.declared.feed_reader.state.Body.{Body}
use Rattle.feed_reading.specs.declared.feed_reader.state.Body.TheVariants as bodies
use Rattle.feed_reading.specs.declared.feed_reader.state.HeadSoFar.{HeadSoFar}
use Rattle.feed_reading.specs.Faults.{Piece, Inside, Only, InSome, IsTorn, IsNotText, IsLeast}
use Rattle.feed_reading.specs.FeedPieces.{Seen, OfHeadSoFar, StandsFor}
use Rattle.feed_reading.specs.Known.{entity_known}
use Rattle.feed_reading.specs.Limits.{entity_limit}
use Rattle.feed_reading.specs.Meaning.{Means}
use Rattle.feed_reading.specs.Pieces.{InEach}
use Rattle.feed_reading.specs.Tables.{OfFeedEntity}

-- what is so of each reader, whatever came: neither what it gave nor what it holds is more than what came
pub record IsCounted (taken given held : ℕ) (top : Top) : Type 0 where
  pub most_given : given ≤ taken
  pub most_held : held ≤ taken
  pub most_read : top.taken ≤ taken

-- a field begins
abbrev pub body_of : ℕ → ℕ → ℕ → Body
body_of number at len =
    if number == 1 then bodies.Header at len
    else if number == 2 then bodies.Entity at len
    else bodies.Other

-- what bodies say, and then another one
abbrev pub head_after : Option HeadSoFar → HeadSoFar → HeadSoFar
head_after None said = said
head_after (Some before) said =
    record {
      version = option_or said.version before.version;
      incrementality = option_or said.incrementality before.incrementality;
      timestamp = option_or said.timestamp before.timestamp;
    }

-- ---- the reader after a change

abbrev pub stepped : Seen → ℕ → Top → Seen
stepped r used top = record {
  taken = r.taken + used;
  given = r.given;
  top = top;
  body = r.body;
  held = r.held;
  head = r.head;
  fault = r.fault;
}

abbrev pub with_body : Seen → Body → Seen
with_body r body = record {
  taken = r.taken;
  given = r.given;
  top = r.top;
  body = body;
  held = r.held;
  head = r.head;
  fault = r.fault;
}

abbrev pub holding : Seen → List ℕ → Seen
holding r bytes = record {
  taken = r.taken;
  given = r.given;
  top = r.top;
  body = r.body;
  held = r.held ++ bytes;
  head = r.head;
  fault = r.fault;
}

abbrev pub with_held : Seen → List ℕ → Seen
with_held r held = record {
  taken = r.taken;
  given = r.given;
  top = r.top;
  body = r.body;
  held = held;
  head = r.head;
  fault = r.fault;
}

-- a body has ended
abbrev pub between : Seen → Option HeadSoFar → Option FeedFault → Seen
between r head fault = record {
  taken = r.taken;
  given = r.given;
  top = r.top;
  body = bodies.Other;
  held = [];
  head = head;
  fault = fault;
}

abbrev pub with_given : Seen → ℕ → Seen
with_given r given = record {
  taken = r.taken;
  given = given;
  top = r.top;
  body = r.body;
  held = r.held;
  head = r.head;
  fault = r.fault;
}

-- ---- the steps

-- the faults of one body of a header, but that its version may be missing
abbrev pub InHeaderBody : Piece → FeedFault → Type 0
InHeaderBody piece fault = IsTorn piece fault ⊎ InSome (Inside 1 (Only piece)) IsNotText fault

-- the piece of a body that ends here
abbrev pub body_piece : Seen → ℕ → List ℕ → Piece
body_piece r at body = record { tag = at; start = r.taken - length body; bytes = body }

-- what a piece of a header says, or its first fault
abbrev pub IsHeadOf : Piece → Result HeadSoFar FeedFault → Type 0
IsHeadOf piece (Ok head) = Means OfHeadSoFar piece.bytes head
IsHeadOf piece (Err fault) = IsLeast (InHeaderBody piece) (Some fault)

-- the entity that a piece means, or its first fault
abbrev pub IsReadOf : Piece → Result Entity FeedFault → Type 0
IsReadOf piece (Ok entity) = Means OfFeedEntity piece.bytes entity
IsReadOf piece (Err fault) = IsLeast (InEach entity_known 0 piece) (Some fault)

-- a body of the header ends, or an entity's
abbrev pub EndsHeader : Seen → ℕ → List ℕ → Seen → Type 0
EndsHeader old at body new =
    ((said : HeadSoFar) × Means OfHeadSoFar body said
    × (new ≡ between old (Some (head_after old.head said)) old.fault))
    ⊎ ((fault : FeedFault) × IsLeast (InHeaderBody (body_piece old at body)) (Some fault)
    × (new ≡ between old old.head (Some fault)))

abbrev pub EndsEntity : Seen → ℕ → List ℕ → Option Entity → Seen → Type 0
EndsEntity old at body (Some entity) new = Means OfFeedEntity body entity × (new ≡ between old old.head old.fault)
EndsEntity old at body None new =
    (fault : FeedFault) × IsLeast (InEach entity_known 0 (body_piece old at body)) (Some fault)
    × (new ≡ between old old.head (Some fault))

-- bytes of the body come that is being read
abbrev pub ProceedsBy : Body → Seen → List ℕ → Option Entity → Seen → Type 0
ProceedsBy bodies.Other old bytes ended new = (ended ≡ None) × (new ≡ old)
ProceedsBy (bodies.Header at len) old bytes ended new =
    (ended ≡ None)
    × MatchBool (nat_lt (length old.held + length bytes) len) (new ≡ holding old bytes)
    (EndsHeader old at (old.held ++ bytes) new)
ProceedsBy (bodies.Entity at len) old bytes ended new =
    MatchBool (nat_lt (length old.held + length bytes) len) ((ended ≡ None) × (new ≡ holding old bytes))
    (EndsEntity old at (old.held ++ bytes) ended new)

abbrev pub Proceeds : Seen → List ℕ → Option Entity → Seen → Type 0
Proceeds old bytes ended new = ProceedsBy old.body old bytes ended new

-- a field with bytes begins
abbrev pub Begins : Seen → ℕ → ℕ → ℕ → Option Entity → Seen → Type 0
Begins old number at len ended new =
    MatchBool (number == 2 && nat_lt entity_limit len)
    ((ended ≡ None) × (new ≡ between old old.head (Some (EntityTooLong at))))
    (Proceeds (with_body old (body_of number at len)) [] ended new)

-- after these bytes no entity ended, or one ends just there, which has no index yet
abbrev pub Ends : Seen → List ℕ → List Entity → Option Entity → Type 0
Ends reader bytes given None = StandsFor reader bytes given
Ends reader bytes given (Some entity) =
    StandsFor (with_given reader (reader.given + 1)) bytes (given ++ entity ∷ []) × (place_of reader.top ≡ Between)

-- the header at the end of so many bytes that are fields without a fault
abbrev pub head_with : Option (List ℕ) → HeadSoFar → ℕ → Result FeedHead FeedFault
head_with None head taken = Err (MissingField taken GtfsRealtimeVersion)
head_with (Some version) head taken =
    Ok (record {
      version = version;
      incrementality = unwrap_or (option_map (λ n. cast_signed w32 (n % 2 ^ 32)) head.incrementality) (pos 0);
      timestamp = head.timestamp;
    })

abbrev pub whole_head : Option HeadSoFar → ℕ → Result FeedHead FeedFault
whole_head None taken = Err (MissingField taken Header)
whole_head (Some head) taken = head_with head.version head taken
