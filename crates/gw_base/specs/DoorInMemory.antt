-- A door in memory: the connections that it holds, and what its calls do to it.
use Rattle.std.specs.Prelude.{◌&&◌, ◌+◌, ◌-◌, ℕ, ℤ, Bool, true, false, not, nat_le, min, List, [], ◌∷◌, ◌++◌, length, take, drop, Option, Some}
use Rattle.gw_base.specs.declared.door.Entry.{Entry}
use Rattle.gw_base.specs.declared.door.Mark.{Mark}
use Rattle.gw_base.specs.Connections.{Connections, Beside}
use Rattle.gw_base.specs.Memory.{Uses, fails_next, after_use, after_fault}

-- one connection: its whole input, what is unread of it, what is written, and the room that is left for more
pub record Open : Type 0 where
  pub input : List ℕ
  pub unread : List ℕ
  pub written : List ℕ
  pub spare : ℕ

-- a connection before its first read and its first write
abbrev pub opened : ℕ → List ℕ → Open
opened room input = record { input = input; unread = input; written = []; spare = room }

-- a connection after these bytes were written to it
abbrev pub with_written : Open → List ℕ → Open
with_written held bytes = record held { written = held.written ++ bytes; spare = held.spare - length bytes }

-- the inputs of the connections to come, and the room of each one's output
pub record Awaited : Type 0 where
  pub inputs : List (List ℕ)
  pub room : ℕ

-- the connections that were finished, and how many more are kept without memory
pub record Kept : Type 0 where
  pub entries : List Entry
  pub spare : ℕ

-- a door in memory: whether a connection is present, what is written to it, the room of each connection's output, how
-- many bytes a read or a write takes at most, the connections, and the uses
pub record DoorInMemory : Type 0 where
  pub present : Bool
  pub written : List ℕ
  pub room : ℕ
  pub most : ℕ
  pub connections : Connections
  pub uses : Uses

-- what it shows beside what is written: it tells its connections
abbrev pub shown_beside : DoorInMemory → Beside
shown_beside door = record { present = door.present; told = Some door.connections }

-- a door that was just made
abbrev pub new_door : List (List ℕ) → ℕ → ℕ → List ℕ → DoorInMemory
new_door inputs room most fails = record {
  present = false;
  written = [];
  room = room;
  most = most;
  connections = record { coming = inputs; input = []; unread = []; log = [] };
  uses = record { fails = fails; made = 0; faults = 0 };
}

-- the door after a call that met a fault
abbrev pub after_failed : DoorInMemory → DoorInMemory
after_failed door = record door { uses = after_fault door.uses }

-- the door after it answered that no connection is to come
abbrev pub after_none : DoorInMemory → DoorInMemory
after_none door = record door { uses = after_use door.uses }

-- the door after the connection of this input came, with those that are to come later
abbrev pub after_next : DoorInMemory → List ℕ → List (List ℕ) → DoorInMemory
after_next door input later = record door {
  present = true;
  written = [];
  connections = record { coming = later; input = input; unread = input; log = door.connections.log };
  uses = after_use door.uses;
}

-- how many bytes a read into this much room gives
abbrev pub read_count : DoorInMemory → ℕ → ℕ
read_count door room = min (min door.most room) (length door.connections.unread)

-- the door after that many bytes were read
abbrev pub after_read : DoorInMemory → ℕ → DoorInMemory
after_read door count = record door {
  connections = record door.connections { unread = drop count door.connections.unread };
  uses = after_use door.uses;
}

-- how many bytes of a piece a write takes
abbrev pub write_count : DoorInMemory → List ℕ → ℕ
write_count door piece = min door.most (length piece)

-- what a write takes of the piece is for a present connection, and fits in the room that is left
abbrev pub fits_open : DoorInMemory → List ℕ → Bool
fits_open door piece = door.present && nat_le (length door.written + write_count door piece) door.room

-- whether the next call, which writes this piece, goes well
abbrev pub writes_next : DoorInMemory → List ℕ → Bool
writes_next door piece = not (fails_next door.uses) && fits_open door piece

-- the door after a prefix of the piece was written
abbrev pub after_write : DoorInMemory → List ℕ → DoorInMemory
after_write door piece = record door {
  written = door.written ++ take (write_count door piece) piece;
  uses = after_use door.uses;
}

-- the entry of the present connection
abbrev pub entry_of : DoorInMemory → Mark → Option ℤ → Entry
entry_of door mark moment =
    record { input = door.connections.input; mark = mark; moment = moment; output = door.written }

-- the door after the present connection was ended under this mark and moment
abbrev pub after_finish : DoorInMemory → Mark → Option ℤ → DoorInMemory
after_finish door mark moment = record door {
  present = false;
  written = [];
  connections = record {
    coming = door.connections.coming;
    input = [];
    unread = [];
    log = door.connections.log ++ entry_of door mark moment ∷ [];
  };
}
