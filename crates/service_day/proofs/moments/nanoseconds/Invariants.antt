use Rattle.std.proofs.Common.{◌≡◌, ◌+◌, drop}
use Rattle.service_day.specs.Moments.{tenths}
use Rattle.service_day.proofs.moments.nanoseconds.Given as goal

abbrev pub invariant-loop-c : goal.invariant-loop-c
invariant-loop-c l = l.nanos + tenths l.unit (drop l.c-index l.digits) ≡ tenths 100000000 l.digits
