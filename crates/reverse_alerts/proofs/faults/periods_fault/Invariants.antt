-- the first fault stands among what is left
use Rattle.std.proofs.Common.{◌≡◌, drop}
use Rattle.reverse_alerts.specs.Taken.{periods_fault}
use Rattle.reverse_alerts.proofs.faults.periods_fault.Given as goal

abbrev pub invariant-loop-period : goal.invariant-loop-period
invariant-loop-period l = periods_fault (drop l.period-index l.periods) ≡ periods_fault l.periods
