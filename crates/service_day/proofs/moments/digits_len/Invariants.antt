use Rattle.std.proofs.Common.{◌≡◌, ◌+◌, drop}
use Rattle.service_day.specs.Moments.{digits_len}
use Rattle.service_day.proofs.moments.digits_len.Given as goal

abbrev pub invariant-loop-i : goal.invariant-loop-i
invariant-loop-i l = digits_len l.text ≡ l.i + digits_len (drop l.i l.text)
