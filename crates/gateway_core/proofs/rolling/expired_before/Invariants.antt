-- the entries so far are of days before
use Rattle.std.proofs.Common.{◌≡◌, true, take}
use Rattle.std.specs.Prelude.{int_lt}
use Rattle.std.specs.List.{AllByRecursion}
use Rattle.gateway_core.proofs.rolling.expired_before.Given as goal

abbrev pub invariant-loop-i : goal.invariant-loop-i
invariant-loop-i l = AllByRecursion (λ one. int_lt one.key.day l.first ≡ true) (take l.i l.journeys.entries)
