-- What an answer of reading updates says.
use Rattle.std.specs.Prelude.{◌≡◌, Result, Ok, Err, ⊤}
use Rattle.journey_model.specs.declared.fault.Fault.{Fault}
use Rattle.propagation.specs.declared.update_fault.UpdateFault.{UpdateFault}
use Rattle.propagation.specs.declared.update_fault.UpdateFault.TheVariants as told

-- the answer is what is said, a value or a fault; want of memory may come instead
abbrev pub Propagates : {T : Type 0} → Result T Fault → Result T UpdateFault → Type 0
Propagates {T} said (Ok value) = ◌≡◌ {A = Result T Fault} said (Ok value)
Propagates {T} said (Err (told.Fault fault)) = ◌≡◌ {A = Result T Fault} said (Err fault)
Propagates said (Err told.Memory) = ⊤
