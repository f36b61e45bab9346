-- What a door of the network shows.
use Rattle.std.specs.Prelude.{ℕ, List, [], Bool, false, Option, None}
use Rattle.gw_base.specs.Connections.{Beside}

-- the port to which it is bound, if it is, whether a connection is present, the bytes that are gathered to be sent, and
-- the count of its faults
pub record DoorOfTcp : Type 0 where
  pub port : Option ℕ
  pub present : Bool
  pub held : List ℕ
  pub faults : ℕ

-- what is written, which it doesn't tell
abbrev pub told_of : DoorOfTcp → Option (List ℕ)
told_of door = None

-- its connections, of which it tells only whether one is present
abbrev pub beside_of : DoorOfTcp → Beside
beside_of door = record { present = door.present; told = None }

-- a door that isn't bound, with no connection present and no fault so far
abbrev pub new_door : DoorOfTcp
new_door = record { port = None; present = false; held = []; faults = 0 }
