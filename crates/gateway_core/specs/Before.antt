-- What is answered by what keeps a body before it is taken.
use Rattle.std.specs.Prelude.{◌≡◌, ℕ, Option, Some, None, Result, Ok, Err, ⊤}
use Rattle.gateway_core.specs.declared.before.KeepFault.{KeepFault}
use Rattle.gateway_core.specs.declared.before.KeepFault.TheVariants.{Failed, Full}

-- a call to the outside failed
abbrev pub HasFailed : Result (Unit {0}) KeepFault → Type 0
HasFailed (Ok done) = ⊥
HasFailed (Err Failed) = ⊤
HasFailed (Err (Full end)) = ⊥

-- a fact that holds unless a call to the outside failed
abbrev pub UnlessFailed : Result (Unit {0}) KeepFault → Type 0 → Type 0
UnlessFailed (Ok done) fact = fact
UnlessFailed (Err Failed) fact = ⊤
UnlessFailed (Err (Full end)) fact = fact

-- the answer is Full exactly where a body is refused as full, and with that end
abbrev pub IsFullExactly : Option ℕ → Result (Unit {0}) KeepFault → Type 0
IsFullExactly full (Ok done) = full ≡ None
IsFullExactly full (Err Failed) = full ≡ None
IsFullExactly full (Err (Full end)) = full ≡ Some end
