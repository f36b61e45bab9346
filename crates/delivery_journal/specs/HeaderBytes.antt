-- How the header of a record is written.
use Rattle.std.specs.Prelude.{ℕ, ℤ, pos, negsuc, List, ◌∷◌, ◌++◌}
use Rattle.std.specs.Int.{w32, w64, to_be_bytes}
use Rattle.gw_base.specs.declared.kind.Kind.{Kind}
use Rattle.gw_base.specs.declared.kind.Kind.TheVariants.{Estimated, Situations, Feed}

abbrev pub kind_byte : Kind → ℕ
kind_byte Estimated = 1
kind_byte Situations = 2
kind_byte Feed = 3

-- the seconds of a moment, which isn't before 1970
abbrev pub seconds : ℤ → ℕ
seconds (pos secs) = secs
seconds (negsuc n) = 0

-- a byte of the kind, the moment and the body's length
abbrev pub header_bytes : Kind → ℤ → ℕ → List ℕ
header_bytes kind moment count = kind_byte kind ∷ to_be_bytes w64 (seconds moment) ++ to_be_bytes w32 count
