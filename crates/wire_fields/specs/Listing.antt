-- Why the fields of a message were not listed.
use Rattle.std.specs.Prelude.{ℕ, List}
use Rattle.wire_fields.specs.declared.fault.ListFault.{ListFault}
use Rattle.wire_fields.specs.declared.fault.ListFault.TheVariants.{Wire, Memory}
use Rattle.wire_fields.specs.Breaks.{IsBroken}

-- a fault of the wire says where and how the bytes break; memory may run out at any time
abbrev pub HasCause : List ℕ → ListFault → Type 0
HasCause bytes (Wire fault) = IsBroken bytes fault.at fault.kind
HasCause bytes Memory = Unit {0}
