-- The number so far, with the digits that are left after it, is the whole number.
use Rattle.std.proofs.Common.{◌≡◌, ◌≤◌, IsTrue, length}
use Rattle.std.specs.List.{list_all}
use Rattle.std.specs.Char.{is_ascii_digit}
use Rattle.std.specs.Str.Parse.{digits_value, digits_value_after}
use Rattle.gw_base.specs.Limits.{body_limit}
use Rattle.http_talk.proofs.length.limited.Given as goal

abbrev pub invariant-loop-digit : goal.invariant-loop-digit
invariant-loop-digit l = record {
  whole : digits_value_after 10 l.size l.rest ≡ digits_value 10 l.digits;
  small : l.size ≤ body_limit;
  digits : IsTrue (list_all is_ascii_digit l.rest);
}

abbrev pub decreases-loop-digit : goal.decreases-loop-digit
decreases-loop-digit l = length l.rest
