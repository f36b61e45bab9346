-- What a moment text names is a moment.
use Rattle.std.proofs.Common.{◌≡◌, ℕ, ℤ, List, Bool, true, false, Option, Some, None, refl, if◌then◌else◌, arith}
use Rattle.std.proofs.lemmas.Int.{ints}
use Rattle.std.proofs.lemmas.Option.{none-some}
use Rattle.gw_base.specs.Moments.{IsMoment}
use Rattle.service_day.specs.Days.{date_number}
use Rattle.service_day.specs.Digits.{has_form, two_at, four_at}
use Rattle.gw_base.specs.Moments.{is_moment}
use Rattle.service_day.specs.Utc.{utc_of, utc_form, moment_at, moment_if, is_clock, seconds_at}

is_moment-IsMoment : (secs : ℤ) → is_moment secs ≡ true → IsMoment secs
is_moment-IsMoment secs e = grind (arith, ints)

moment_if-IsMoment : (secs moment : ℤ) → moment_if secs ≡ Some moment → IsMoment moment
moment_if-IsMoment secs moment e = by (is_moment secs) refl e
  where
    by : (b : Bool) → is_moment secs ≡ b → (if b then Some secs else None) ≡ Some moment → IsMoment moment
    by true t e = let s : secs ≡ moment = cc in rw (← s) (is_moment-IsMoment secs t)
    by false t e = absurd (none-some moment e)

moment_at-IsMoment : (day : Option ℤ) (hour minute second : ℕ) (moment : ℤ) → moment_at day hour minute second ≡ Some moment → IsMoment moment
moment_at-IsMoment None hour minute second moment e = absurd (none-some moment e)
moment_at-IsMoment (Some day) hour minute second moment e = by (is_clock hour minute second) e
  where
    by : (b : Bool) → (if b then moment_if (seconds_at day hour minute second) else None) ≡ Some moment → IsMoment moment
    by true e = moment_if-IsMoment (seconds_at day hour minute second) moment e
    by false e = absurd (none-some moment e)

-- what a text names is a moment
pub utc_of-IsMoment : (text : List ℕ) (secs : ℤ) → utc_of text ≡ Some secs → IsMoment secs
unfolding utc_of
utc_of-IsMoment text secs e = by (has_form utc_form text) e
  where
    by : (b : Bool) → (if b then moment_at (date_number (four_at text 0) (two_at text 5) (two_at text 8)) (two_at text 11) (two_at text 14) (two_at text 17) else None) ≡ Some secs → IsMoment secs
    by true e = moment_at-IsMoment (date_number (four_at text 0) (two_at text 5) (two_at text 8)) (two_at text 11) (two_at text 14) (two_at text 17) secs e
    by false e = absurd (none-some secs e)
