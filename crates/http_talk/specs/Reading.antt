-- What a reader of heads keeps, and what it answers to a piece of the input: what the definition has for each input
-- that begins with the bytes so far.
use Rattle.std.specs.Prelude.{◌≡◌, ℕ, ◌+◌, ◌≤◌, List, [], ◌++◌, length, Result, Ok, Err}
use Rattle.http_talk.specs.declared.place.Place.{Place}
use Rattle.http_talk.specs.declared.fed.Fed.{Fed}
use Rattle.http_talk.specs.declared.fed.Fed.TheVariants.{More, Whole, Refused}
use Rattle.http_talk.specs.declared.refusal.Refusal.{Refusal}
use Rattle.http_talk.specs.declared.target.Head.{Head}
use Rattle.http_talk.specs.Ends.{IsOpen, head_limit}
use Rattle.http_talk.specs.Places.{place_of}
use Rattle.http_talk.specs.Request.{IsHead, IsRefused}

-- the bytes held are no whole head and may become one, the place is the one after them, and a whole head has room
pub record IsReader (held : List ℕ) (room : ℕ) (place : Place) : Type 0 where
  pub opens : IsOpen held
  pub place_is : place_of held ≡ place
  pub room_is : head_limit ≤ room

-- the answer to a piece after the bytes held: `More` exactly where no head ends in fewer than 16,384 bytes, else what
-- each input has that begins with them
abbrev pub Feeds : List ℕ → List ℕ → Fed → Type 0
Feeds held piece More = IsOpen (held ++ piece)
Feeds held piece (Whole used head) =
    (used ≤ length piece) × ((more : List ℕ) → IsHead (held ++ piece ++ more) (length held + used) (Ok head))
Feeds held piece (Refused why) = (more : List ℕ) → IsRefused (held ++ piece ++ more) why

-- the bytes held afterwards: those that came, or none, so that the next head can come
abbrev pub held_after : List ℕ → List ℕ → Fed → List ℕ
held_after held piece More = held ++ piece
held_after held piece (Whole used head) = []
held_after held piece (Refused why) = []

-- the answer where the head ends after so many bytes of the piece
abbrev pub fed_of : ℕ → Result Head Refusal → Fed
fed_of used (Ok head) = Whole used head
fed_of used (Err why) = Refused why
