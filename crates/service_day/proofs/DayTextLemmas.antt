-- What is written of a day reads as that day.
use Rattle.std.proofs.Common.{◌≡◌, ℕ, ◌++◌, ◌∷◌, [], ◌+◌, ◌/◌, ◌%◌, ◌<◌, arith, refl, ℤ, pos, Some, true, All, length}
use Rattle.std.proofs.lemmas.List.Elements.{All-nil, All-cons, All-append}
use Rattle.jiff_core.proofs.CalendarLemmas.{days_in_month_bounds}
use Rattle.service_day.specs.Days.{IsDay, year_of, month_of, day_of_month}
use Rattle.service_day.specs.DayTexts.{dashed_day, compact_day, dashed_text, compact_text, dashed_form, compact_form}
use Rattle.service_day.specs.Digits.{IsDigit, has_form, two_at, four_at, two_digits, four_digits}
use Rattle.service_day.proofs.FormLemmas.{is_digit-written}
use Rattle.service_day.proofs.DayLemmas.{date_number-parts, year_high, month_high, day_high}

has_form-dashed : (y m d : ℕ) → y < 10000 → m < 100 → d < 100 → has_form dashed_form (four_digits y ++ 45 ∷ two_digits m ++ 45 ∷ two_digits d) ≡ true
unfolding has_form
has_form-dashed y m d hy hm hd =
    rw (is_digit-written (y / 100 / 10) (omega arith), is_digit-written (y / 100 % 10) (omega arith), is_digit-written (y % 100 / 10) (omega arith), is_digit-written (y % 100 % 10) (omega arith), is_digit-written (m / 10) (omega arith), is_digit-written (m % 10) (omega arith), is_digit-written (d / 10) (omega arith), is_digit-written (d % 10) (omega arith))

spells_dashed : (y m d : ℕ) → y < 10000 → m < 100 → d < 100 → (four_at (four_digits y ++ 45 ∷ two_digits m ++ 45 ∷ two_digits d) 0 ≡ y) × (two_at (four_digits y ++ 45 ∷ two_digits m ++ 45 ∷ two_digits d) 5 ≡ m) × (two_at (four_digits y ++ 45 ∷ two_digits m ++ 45 ∷ two_digits d) 8 ≡ d)
spells_dashed y m d hy hm hd = (omega arith, omega arith, omega arith)

-- a dashed text that is written reads as its day
pub dashed_day-dashed_text : (n : ℤ) → IsDay n → dashed_day (dashed_text n) ≡ Some n
unfolding dashed_day dashed_text
dashed_day-dashed_text n h =
    let y = year_of n in
    let m = month_of n in
    let d = day_of_month n in
    let hy : y < 10000 = omega (arith, year_high n) in
    let hm : m < 100 = omega (arith, month_high n) in
    let hd : d < 100 = omega (arith, day_high n h, days_in_month_bounds (pos (year_of n)) (month_of n)) in
    let s = spells_dashed y m d hy hm hd in
    rw (has_form-dashed y m d hy hm hd, s.0, s.1, s.2) (date_number-parts n h)

has_form-compact : (y m d : ℕ) → y < 10000 → m < 100 → d < 100 → has_form compact_form (four_digits y ++ two_digits m ++ two_digits d) ≡ true
unfolding has_form
has_form-compact y m d hy hm hd =
    rw (is_digit-written (y / 100 / 10) (omega arith), is_digit-written (y / 100 % 10) (omega arith), is_digit-written (y % 100 / 10) (omega arith), is_digit-written (y % 100 % 10) (omega arith), is_digit-written (m / 10) (omega arith), is_digit-written (m % 10) (omega arith), is_digit-written (d / 10) (omega arith), is_digit-written (d % 10) (omega arith))

spells_compact : (y m d : ℕ) → y < 10000 → m < 100 → d < 100 → (four_at (four_digits y ++ two_digits m ++ two_digits d) 0 ≡ y) × (two_at (four_digits y ++ two_digits m ++ two_digits d) 4 ≡ m) × (two_at (four_digits y ++ two_digits m ++ two_digits d) 6 ≡ d)
spells_compact y m d hy hm hd = (omega arith, omega arith, omega arith)

-- and so does a compact text
pub compact_day-compact_text : (n : ℤ) → IsDay n → compact_day (compact_text n) ≡ Some n
unfolding compact_day compact_text
compact_day-compact_text n h =
    let y = year_of n in
    let m = month_of n in
    let d = day_of_month n in
    let hy : y < 10000 = omega (arith, year_high n) in
    let hm : m < 100 = omega (arith, month_high n) in
    let hd : d < 100 = omega (arith, day_high n h, days_in_month_bounds (pos (year_of n)) (month_of n)) in
    let s = spells_compact y m d hy hm hd in
    rw (has_form-compact y m d hy hm hd, s.0, s.1, s.2) (date_number-parts n h)

-- the lengths of what is written
pub length-dashed_text : (n : ℤ) → length (dashed_text n) ≡ 10
unfolding dashed_text
length-dashed_text n = refl

pub length-compact_text : (n : ℤ) → length (compact_text n) ≡ 8
unfolding compact_text
length-compact_text n = refl

digit_written : (n : ℕ) → n < 10 → IsDigit (48 + n)
digit_written n h = (omega arith, omega arith)

All-two_digits : (n : ℕ) → n < 100 → All IsDigit (two_digits n)
All-two_digits n h = All-cons IsDigit (48 + n / 10) ((48 + n % 10) ∷ []) (digit_written (n / 10) (omega arith)) (All-cons IsDigit (48 + n % 10) [] (digit_written (n % 10) (omega arith)) (All-nil IsDigit))

All-spelled : (y m d : ℕ) → y < 10000 → m < 100 → d < 100 → All IsDigit (four_digits y ++ two_digits m ++ two_digits d)
All-spelled y m d hy hm hd =
    All-append IsDigit (four_digits y ++ two_digits m) (two_digits d)
    (All-append IsDigit (four_digits y) (two_digits m)
    (All-append IsDigit (two_digits (y / 100)) (two_digits (y % 100)) (All-two_digits (y / 100) (omega arith)) (All-two_digits (y % 100) (omega arith)))
    (All-two_digits m hm))
    (All-two_digits d hd)

-- a compact text has digits alone
pub All-compact_text : (n : ℤ) → IsDay n → All IsDigit (compact_text n)
unfolding compact_text
All-compact_text n h =
    All-spelled (year_of n) (month_of n) (day_of_month n) (omega (arith, year_high n)) (omega (arith, month_high n)) (omega (arith, day_high n h, days_in_month_bounds (pos (year_of n)) (month_of n)))
