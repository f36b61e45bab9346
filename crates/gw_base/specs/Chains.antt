-- Values that are found one after the other, of which the first fault ends the search.
use Rattle.std.specs.Prelude.{Option, Some, None, Result, Ok, Err}

-- a value, and what is found with it: the first fault counts
infixl 10 ◌>>=◌
abbrev pub ◌>>=◌ : {A B E : Type 0} → Result A E → (A → Result B E) → Result B E
Ok value >>= next = next value
Err fault >>= next = Err fault

-- a value, unless there is a fault
abbrev pub unless_fault : {A E : Type 0} → Option E → A → Result A E
unless_fault None value = Ok value
unless_fault (Some fault) value = Err fault

-- what is made of a value, or its fault
abbrev pub ok_map : {A B E : Type 0} → (A → B) → Result A E → Result B E
ok_map make (Ok value) = Ok (make value)
ok_map make (Err fault) = Err fault
