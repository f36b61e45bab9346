-- the periods so far and those of what is left are all
use Rattle.std.proofs.Common.{◌≡◌, ◌++◌, drop, map}
use Rattle.alert_map.specs.Alerts.{period_of}
use Rattle.alert_map.proofs.alerts.periods_of.Given as goal

abbrev pub invariant-loop-period : goal.invariant-loop-period
invariant-loop-period l = l.all ++ map period_of (drop l.period-index l.periods) ≡ map period_of l.periods
