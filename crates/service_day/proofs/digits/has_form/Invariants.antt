use Rattle.std.proofs.Common.{◌≡◌, drop, length}
use Rattle.service_day.specs.Digits.{has_form}
use Rattle.service_day.proofs.digits.has_form.Given as goal

abbrev pub invariant-loop-i : goal.invariant-loop-i
invariant-loop-i l = record {
  same_length : length l.text ≡ length l.form;
  left : has_form l.form l.text ≡ has_form (drop l.i l.form) (drop l.i l.text);
}
