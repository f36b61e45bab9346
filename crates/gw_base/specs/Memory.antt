-- The objects of the outside that lie in memory, with the uses of them that are to fail.
use Rattle.std.specs.Prelude.{◌==◌, ◌&&◌, ℕ, Bool, not, nat_le, List, length}
use Rattle.std.specs.List.{list_any}
use Rattle.gw_base.specs.Count.{counted}

-- the numbers of the uses that are to fail, counted from 1; how many uses there were; and how many faults
pub record Uses : Type 0 where
  pub fails : List ℕ
  pub made : ℕ
  pub faults : ℕ

-- whether the next use is to fail
abbrev pub fails_next : Uses → Bool
fails_next uses = list_any (λ number. number == counted uses.made) uses.fails

-- after a use that went well, and after one that met a fault
abbrev pub after_use : Uses → Uses
after_use uses = record { fails = uses.fails; made = counted uses.made; faults = uses.faults }

abbrev pub after_fault : Uses → Uses
after_fault uses = record { fails = uses.fails; made = counted uses.made; faults = counted uses.faults }

-- files in memory: each name with its bytes
pub record FilesInMemory : Type 0 where
  pub files : List (List ℕ × List ℕ)
  pub uses : Uses

-- a sink in memory: what is written, the room that is left, and the uses
pub record SinkInMemory : Type 0 where
  pub written : List ℕ
  pub room : ℕ
  pub uses : Uses

-- whether the next write, of this piece, goes well: it is not to fail, and the piece fits
abbrev pub fits_next : SinkInMemory → List ℕ → Bool
fits_next sink piece = not (fails_next sink.uses) && nat_le (length piece) sink.room
