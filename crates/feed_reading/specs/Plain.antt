-- What a plain reader answers.
use Rattle.std.specs.Prelude.{⊤, Result, Ok, Err}
use Rattle.wire_fields.specs.declared.fault.ListFault.{ListFault}
use Rattle.wire_fields.specs.declared.fault.ListFault.TheVariants as lists
use Rattle.feed_reading.specs.declared.plain_fault.PlainFault.{PlainFault}
use Rattle.feed_reading.specs.declared.plain_fault.PlainFault.TheVariants.{Meaningless, Memory}

-- the answer is what was looked for, or there is no such thing, or memory ran out
abbrev pub Finds : {M : Type 0} → (M → Type 0) → Result M PlainFault → Type 0
Finds Sought (Ok found) = Sought found
Finds {M} Sought (Err Meaningless) = (other : M) → ¬ Sought other
Finds Sought (Err Memory) = ⊤

-- bytes that are no list of fields mean no message
abbrev pub fault_of : ListFault → PlainFault
fault_of (lists.Wire fault) = Meaningless
fault_of lists.Memory = Memory
