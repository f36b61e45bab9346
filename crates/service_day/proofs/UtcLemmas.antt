-- What is written of a moment reads as that moment.
use Rattle.std.proofs.Common.{◌≡◌, ℕ, ◌/◌, ◌%◌, ◌<◌, List, [], ◌∷◌, ◌++◌, length, true, arith, refl, ℤ, pos, negsuc, Some, ap, ◌∙◌}
use Rattle.std.proofs.lemmas.Bool.Decides.{nat_tests}
use Rattle.std.proofs.lemmas.Int.{ints}
use Rattle.jiff_core.proofs.CalendarLemmas.{days_in_month_bounds}
use Rattle.service_day.specs.Days.{IsDay, year_of, month_of, day_of_month}
use Rattle.service_day.specs.DayTexts.{dashed_text}
use Rattle.service_day.specs.Digits.{has_form, two_at, four_at, two_digits, four_digits}
use Rattle.gw_base.specs.Moments.{IsMoment}
use Rattle.service_day.specs.Utc.{moment_at, seconds_at, utc_form, utc_of, moment_text}
use Rattle.service_day.proofs.FormLemmas.{is_digit-written}
use Rattle.service_day.proofs.DayLemmas.{date_number-parts, year_high, month_high, day_high}

abbrev spelled : ℕ → ℕ → ℕ → ℕ → ℕ → ℕ → List ℕ
spelled y m d h n s =
    (four_digits y ++ 45 ∷ two_digits m ++ 45 ∷ two_digits d) ++ 84 ∷ (two_digits h ++ 58 ∷ two_digits n ++ 58 ∷ two_digits s) ++ 90 ∷ []

has_form-spelled : (y m d h n s : ℕ) → y < 10000 → m < 100 → d < 100 → h < 100 → n < 100 → s < 100 → has_form utc_form (spelled y m d h n s) ≡ true
unfolding has_form
has_form-spelled y m d h n s hy hm hd hh hn hs =
    rw (is_digit-written (y / 100 / 10) (omega arith), is_digit-written (y / 100 % 10) (omega arith), is_digit-written (y % 100 / 10) (omega arith), is_digit-written (y % 100 % 10) (omega arith), is_digit-written (m / 10) (omega arith), is_digit-written (m % 10) (omega arith), is_digit-written (d / 10) (omega arith), is_digit-written (d % 10) (omega arith), is_digit-written (h / 10) (omega arith), is_digit-written (h % 10) (omega arith), is_digit-written (n / 10) (omega arith), is_digit-written (n % 10) (omega arith), is_digit-written (s / 10) (omega arith), is_digit-written (s % 10) (omega arith))

date_spelled : (y m d h n s : ℕ) → y < 10000 → m < 100 → d < 100 → (four_at (spelled y m d h n s) 0 ≡ y) × (two_at (spelled y m d h n s) 5 ≡ m) × (two_at (spelled y m d h n s) 8 ≡ d)
date_spelled y m d h n s hy hm hd = (omega arith, omega arith, omega arith)

clock_spelled : (y m d h n s : ℕ) → h < 100 → n < 100 → s < 100 → (two_at (spelled y m d h n s) 11 ≡ h) × (two_at (spelled y m d h n s) 14 ≡ n) × (two_at (spelled y m d h n s) 17 ≡ s)
clock_spelled y m d h n s hh hn hs = (omega arith, omega arith, omega arith)

moment_at-clock : (day : ℤ) (h n s : ℕ) → h < 24 → n < 60 → s < 60 → IsMoment (seconds_at day h n s) → moment_at (Some day) h n s ≡ Some (seconds_at day h n s)
moment_at-clock day h n s hh hn hs m = grind (arith, nat_tests, ints)

-- a second count is its day and its clock
second_of_day : (k : ℕ) → seconds_at (pos (k / 86400)) (k % 86400 / 3600) (k % 86400 / 60 % 60) (k % 86400 % 60) ≡ pos k
second_of_day k = omega (arith, ints)

moment_of : (k : ℕ) → IsMoment (pos k) → utc_of (moment_text (pos k)) ≡ Some (pos k)
unfolding utc_of moment_text dashed_text
moment_of k h =
    let n = pos (k / 86400) in
    let day : IsDay n = omega (arith, ints, h.0, h.1) in
    let hy : year_of n < 10000 = omega (arith, year_high n) in
    let hm : month_of n < 100 = omega (arith, month_high n) in
    let hd : day_of_month n < 100 = omega (arith, day_high n day, days_in_month_bounds (pos (year_of n)) (month_of n)) in
    let hh : k % 86400 / 3600 < 24 = omega arith in
    let hn : k % 86400 / 60 % 60 < 60 = omega arith in
    let hs : k % 86400 % 60 < 60 = omega arith in
    let form = has_form-spelled (year_of n) (month_of n) (day_of_month n) (k % 86400 / 3600) (k % 86400 / 60 % 60) (k % 86400 % 60) hy hm hd (omega arith) (omega arith) (omega arith) in
    let date = date_spelled (year_of n) (month_of n) (day_of_month n) (k % 86400 / 3600) (k % 86400 / 60 % 60) (k % 86400 % 60) hy hm hd in
    let clock = clock_spelled (year_of n) (month_of n) (day_of_month n) (k % 86400 / 3600) (k % 86400 / 60 % 60) (k % 86400 % 60) (omega arith) (omega arith) (omega arith) in
    let at = moment_at-clock n (k % 86400 / 3600) (k % 86400 / 60 % 60) (k % 86400 % 60) hh hn hs (rw (second_of_day k) h) in
    rw (form, date.0, date.1, date.2, clock.0, clock.1, clock.2, date_number-parts n day) (at ∙ ap (λ z. Some z) (second_of_day k))

-- a text that is written reads as its moment
pub utc_of-moment_text : (secs : ℤ) → IsMoment secs → utc_of (moment_text secs) ≡ Some secs
utc_of-moment_text (pos k) h = moment_of k h
utc_of-moment_text (negsuc k) h = absurd (omega (arith, ints, h.0))

pub length-moment_text : (secs : ℤ) → length (moment_text secs) ≡ 20
unfolding moment_text dashed_text
length-moment_text secs = refl
