-- What holds a gateway, as contracts see it, and what it does with a body that was posted and came whole. It may keep
-- the body before that is taken, as a journal does.
use Rattle.std.specs.Prelude.{◌≡◌, ℕ, ℤ, Bool, true, false, List, [], ◌∷◌, length, Result, Ok, Err, ⊤}
use Rattle.gw_base.specs.declared.kind.Kind.{Kind}
use Rattle.delivery_journal.specs.Kept.{KeptBody}
use Rattle.gateway_core.specs.Arrivals.{Arrival}
use Rattle.gateway_core.specs.Bodies.{Takes}
use Rattle.gateway_core.specs.KeptFirst.{CanBeTaken}
use Rattle.gateway_core.specs.Standing.{Kept}
use Rattle.gateway_core.specs.declared.accepted.Accepted.{Accepted}
use Rattle.gateway_core.specs.declared.take.body.BodyRefusal.{BodyRefusal}
use Rattle.gateway_server.specs.declared.not_taken.NotTaken.{NotTaken}
use Rattle.gateway_server.specs.declared.not_taken.NotTaken.TheVariants.{Full, Refused, Unkept}

-- the room for bodies that are kept before they are taken: whether a body of so many bytes is full behind a place, in
-- bytes, at which what is kept ends; and the place at which it ends with that body
pub record Room : Type 0 where
  pub is_full : ℕ → ℕ → Bool
  pub end_after : ℕ → ℕ → ℕ

-- where bodies aren't kept none is full, and the place stays
abbrev pub keeps_none : Room
keeps_none = record { is_full = λ end size. false; end_after = λ end size. end }

-- what holds a gateway: the gateway, the place at which what is kept of its bodies ends, and whether it can take more
pub record Held : Type 0 where
  pub gate : Kept
  pub end : ℕ
  pub is_sound : Bool

-- what is held of a gateway that keeps no bodies
abbrev pub bare : Kept → Held
bare gate = record { gate = gate; end = 0; is_sound = true }

-- ---- a body

-- what is answered to a body of a kind, and what is held then: it is taken, and wasn't full; it is refused for what it
-- holds; or it would be taken, and it isn't kept, or it is full
abbrev pub TakesFirst : Room → Held → List Arrival → ℤ → Kind → List ℕ → Result Accepted NotTaken → Held → Type 0
TakesFirst room held arrivals moment of bytes (Ok accepted) now =
    (room.is_full held.end (length bytes) ≡ false) × (now.end ≡ room.end_after held.end (length bytes))
    × Takes held.gate arrivals moment of bytes (Ok accepted) now.gate
TakesFirst room held arrivals moment of bytes (Err (Refused why)) now =
    Takes held.gate arrivals moment of bytes (Err why) now.gate
TakesFirst room held arrivals moment of bytes (Err Unkept) now =
    CanBeTaken held.gate.setting arrivals moment of bytes
TakesFirst room held arrivals moment of bytes (Err Full) now =
    (room.is_full held.end (length bytes) ≡ true) × CanBeTaken held.gate.setting arrivals moment of bytes

-- what is left of what was held: a gateway that didn't take a body is as before, and more can be taken unless keeping
-- the body failed
abbrev pub IsLeft : Held → Result Accepted NotTaken → Held → Type 0
IsLeft held (Ok accepted) now = now.is_sound ≡ true
IsLeft held (Err (Refused why)) now = now ≡ held
IsLeft held (Err Unkept) now = (now.gate ≡ held.gate) × (now.is_sound ≡ false)
IsLeft held (Err Full) now = now ≡ held

-- keeping a body failed
abbrev pub IsUnkept : Result Accepted NotTaken → Type 0
IsUnkept (Ok accepted) = ⊥
IsUnkept (Err (Refused why)) = ⊥
IsUnkept (Err Unkept) = ⊤
IsUnkept (Err Full) = ⊥

-- what a body adds to those that were taken, by what is answered, and to those of which keeping failed
abbrev pub taken_of : Result Accepted NotTaken → KeptBody → List KeptBody
taken_of (Ok accepted) new = new ∷ []
taken_of (Err why) new = []

abbrev pub failed_of : Result Accepted NotTaken → KeptBody → List KeptBody
failed_of (Ok accepted) new = []
failed_of (Err (Refused why)) new = []
failed_of (Err Unkept) new = new ∷ []
failed_of (Err Full) new = []

-- what a gateway answers that keeps no bodies
abbrev pub unless_refused : Result Accepted BodyRefusal → Result Accepted NotTaken
unless_refused (Ok accepted) = Ok accepted
unless_refused (Err why) = Err (Refused why)
