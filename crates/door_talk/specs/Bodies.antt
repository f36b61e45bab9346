-- How the reading of a request's body ended.
use Rattle.std.specs.Prelude.{◌≡◌, ◌<◌, ◌+◌, ◌++◌, ⊤, ℕ, ℤ, List, length}
use Rattle.gw_base.specs.Connections.{Beside}
use Rattle.gw_base.specs.declared.kind.Kind.{Kind}
use Rattle.door_talk.specs.Requests.{IsEnded}
use Rattle.door_talk.specs.declared.bodies.BodyRead.{BodyRead}
use Rattle.door_talk.specs.declared.bodies.BodyRead.TheVariants.{Cut, NoRoom, Whole}

-- what stood for the first bytes of a body stands for these and the bytes after them
abbrev pub StandsOn : (ℤ → Kind → List ℕ → Type 0) → (ℤ → Kind → List ℕ → Type 0) → List ℕ → Type 0
StandsOn Before Now bytes =
    (moment : ℤ) (kind : Kind) (front : List ℕ) → Before moment kind front → Now moment kind (front ++ bytes)

-- after so many bytes of a body these were read: it is whole and was taken, or the input is at its end before
abbrev pub ReadsBody : Beside → (ℤ → Kind → List ℕ → Type 0) → (ℤ → Kind → List ℕ → Type 0) → ℕ → List ℕ → ℕ
    → BodyRead → Type 0
ReadsBody now Before Now came bytes size Whole = StandsOn Before Now bytes × (came + length bytes ≡ size)
ReadsBody now Before Now came bytes size Cut = IsEnded now × (came + length bytes < size)
ReadsBody now Before Now came bytes size NoRoom = ⊤
