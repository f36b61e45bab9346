-- the periods so far, and after them the text of the others
use Rattle.std.proofs.Common.{◌≡◌, ◌++◌, false, drop, map}
use Rattle.reverse_alerts.specs.Senses.{valid_period}
use Rattle.reverse_alerts.specs.SituationTexts.{periods_text}
use Rattle.reverse_alerts.proofs.write_situation.put_periods.Given as goal

abbrev pub invariant-loop-period : goal.invariant-loop-period
invariant-loop-period l =
    l.out ++ periods_text l.later (map valid_period (drop l.period-index l.periods)) ≡ l.fn.out ++ periods_text false (map valid_period l.periods)
