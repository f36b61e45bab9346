-- none so far is without ends
use Rattle.std.proofs.Common.{◌≡◌, false, take}
use Rattle.std.specs.List.{list_any}
use Rattle.reverse_alerts.specs.Senses.{is_open}
use Rattle.reverse_alerts.proofs.senses.holding.Given as goal

abbrev pub invariant-loop-period : goal.invariant-loop-period
invariant-loop-period l = list_any is_open (take l.period-index l.periods) ≡ false
