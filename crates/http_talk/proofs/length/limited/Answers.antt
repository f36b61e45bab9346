-- Digits that follow make no number less.
use Rattle.std.proofs.Common.{◌≡◌, ℕ, ◌+◌, ◌*◌, ◌<◌, ◌≤◌, List, [], ◌∷◌, Err, arith, rules}
use Rattle.std.specs.Char.{digit_value}
use Rattle.std.specs.Str.Parse.{digits_value_after}
use Rattle.gw_base.specs.Limits.{body_limit}
use Rattle.http_talk.specs.declared.refusal.Refusal.TheVariants.{TooLarge}
use Rattle.http_talk.specs.Asked as asked
use Rattle.http_talk.proofs.length.limited.Goals as goal

grows : (n : ℕ) (cs : List ℕ) → n ≤ digits_value_after 10 n cs
grows n [] = omega arith
grows n (c ∷ cs) = omega (arith, grows (n * 10 + digit_value c) cs)

too_large : (n : ℕ) → body_limit < n → Err TooLarge ≡ asked.limited n
too_large n above = grind arith

over : (n : ℕ) (rest : List ℕ) (whole : ℕ) → digits_value_after 10 n rest ≡ whole → body_limit < n → Err TooLarge ≡ asked.limited whole
over n rest whole same above = too_large whole (omega (arith, grows n rest))

pub returns-then-size-gt-BODY_LIMIT : goal.returns-then-size-gt-BODY_LIMIT
returns-then-size-gt-BODY_LIMIT c = over c.with_digit-size.result c.in-Some.after.now _ (search rules) c.if-size-gt-BODY_LIMIT.true
