-- What an answer promises where some of its errors are free: want of memory, and a fault of the outside.
use Rattle.std.specs.Prelude.{Bool, ⊤, Result, Ok, Err}
use Rattle.std.specs.Bool.{MatchBool}

-- the answer is as this says, unless its error is a free one, which may come in its place and says nothing
abbrev pub UnlessFree : {T E : Type 0} → (E → Bool) → Result T E → (Result T E → Type 0) → Type 0
UnlessFree is_free (Ok value) Says = Says (Ok value)
UnlessFree is_free (Err fault) Says = MatchBool (is_free fault) ⊤ (Says (Err fault))
