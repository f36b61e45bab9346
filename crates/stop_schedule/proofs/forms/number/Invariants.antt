use Rattle.std.proofs.Common.{◌≡◌, length}
use Rattle.timetable.specs.Digits.{digits_value}
use Rattle.stop_schedule.proofs.forms.number.Given as goal

-- what the digits so far and those that are left name together is the number
abbrev pub invariant-loop-rest : goal.invariant-loop-rest
invariant-loop-rest l = digits_value 0 l.text ≡ digits_value l.value l.rest

abbrev pub decreases-loop-rest : goal.decreases-loop-rest
decreases-loop-rest l = length l.rest
