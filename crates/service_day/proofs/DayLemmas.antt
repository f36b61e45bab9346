-- The year, the month and the day of the month of a day number are those of the calendar.
use Rattle.std.proofs.Common.{◌≡◌, ℕ, zero, suc, ◌+◌, ◌<◌, ◌≤◌, inl, inr, arith, refl, sym, ◌∙◌, ℤ, pos, neg_ℤ, ◌+ℤ◌, ◌-ℤ◌, ◌<ℤ◌, ◌≤ℤ◌, negsuc, unsigned_abs, int_le, Some, Bool, true, false, if◌then◌else◌, None}
use Rattle.std.proofs.lemmas.Bool.{cases_order}
use Rattle.std.proofs.lemmas.Bool.Decides.{nat_tests}
use Rattle.std.proofs.lemmas.Int.{ints, by_lt_z}
use Rattle.jiff_core.specs.Calendar.{IsBetween, IsCivilDate, day_count, days_from_civil, days_in_month, days_in_year}
use Rattle.jiff_core.specs.Date.{epoch_day}
use Rattle.jiff_core.specs.declared.civil.date.Date.{Date}
use Rattle.jiff_core.proofs.SignedLemmas.{signed_arith}
use Rattle.jiff_core.proofs.MarchLemmas.{day_count-early}
use Rattle.jiff_core.proofs.CalendarLemmas.{days_from_civil-day_count, day_count-next_year, day_count-last_of_year, day_count-next_month, day_count-day, day_count-later_year, day_count-day_of_year, day_of_year_bound, day_count-epoch}
use Rattle.jiff_core.proofs.DateLemmas.{days_from_civil-max, days_from_civil-day, epoch_day_injective, epoch_day_range}
pub use Rattle.service_day.specs.DateBounds.{last_start-low, last_start-high, year_low, year_high, month_low, month_high, day_low}
use Rattle.service_day.specs.Days.{IsDay, is_date, date_number, last_start, year_of, month_of, day_of_month}

last_start-starts : (start : ℕ → ℤ) (n : ℤ) (low more : ℕ) → start low ≤ℤ n → start (last_start start n low more) ≤ℤ n
unfolding last_start
last_start-starts start n low zero h = h
last_start-starts start n low (suc more) h = grind (arith, ints, last_start-starts start n low more h)

-- one step of the search: what was found below, or the place that is looked at
next_starts : (start : ℕ → ℤ) (n : ℤ) (low more r : ℕ) (found : Bool) → int_le (start (low + suc more)) n ≡ found → r ≤ low + more
    → (r < low + more → n <ℤ start (r + 1)) → (if found then low + suc more else r) < low + suc more
    → n <ℤ start ((if found then low + suc more else r) + 1)
next_starts start n low more r true e high below h = absurd (omega arith)
next_starts start n low more r false e high below h = elim (cases_order r (low + more)) [
  | inr (inl lt) ↦ below lt
  | inl last ↦ (let same : r + 1 ≡ low + suc more = omega arith in rw same (grind (arith, ints, e)))
  | inr (inr gt) ↦ absurd (omega arith)
]

last_start-ends : (start : ℕ → ℤ) (n : ℤ) (low more : ℕ) → last_start start n low more < low + more → n <ℤ start (last_start start n low more + 1)
unfolding last_start
last_start-ends start n low zero h = absurd (omega arith)
last_start-ends start n low (suc more) h =
    next_starts start n low more (last_start start n low more) _ refl (last_start-high start n low more) (last_start-ends start n low more) h

first_count : day_count (pos 1) 1 1 ≡ 3_652_791
first_count = day_count-early _ 10000 1 1 refl (omega arith) (omega arith) (omega arith)

-- 0001-01-01
first_day : days_from_civil (pos 1) 1 1 ≡ neg_ℤ (pos 719162)
first_day = omega (arith, signed_arith, days_from_civil-day_count, first_count)

year_starts : (n : ℤ) → IsDay n → days_from_civil (pos (year_of n)) 1 1 ≤ℤ n
unfolding year_of
year_starts n h = last_start-starts (λ year. days_from_civil (pos year) 1 1) n 1 9998 (rw first_day h.0)

year_ends-early : (n : ℤ) → year_of n < 9999 → n <ℤ days_from_civil (pos (year_of n + 1)) 1 1
unfolding year_of
year_ends-early n h = last_start-ends (λ year. days_from_civil (pos year) 1 1) n 1 9998 h

year_ends : (n : ℤ) → IsDay n → n <ℤ (days_from_civil (pos (year_of n)) 1 1 +ℤ pos (days_in_year (pos (year_of n))))
year_ends n h = elim (cases_order (year_of n) 9999) [
  | inr (inl lt) ↦ omega (arith, signed_arith, year_ends-early n lt, days_from_civil-day_count, day_count-next_year (pos (year_of n)) (pos (year_of n + 1)) (omega (arith, signed_arith)) (omega (arith, signed_arith)))
  | inl last ↦ rw last (omega (arith, signed_arith, h.1, days_from_civil-day_count, days_from_civil-max, day_count-last_of_year (pos 9999)))
  | inr (inr gt) ↦ absurd (omega (arith, year_high n))
]

month_starts : (n : ℤ) → IsDay n → days_from_civil (pos (year_of n)) (month_of n) 1 ≤ℤ n
unfolding month_of
month_starts n h = last_start-starts (λ month. days_from_civil (pos (year_of n)) month 1) n 1 11 (year_starts n h)

month_ends-early : (n : ℤ) → month_of n < 12 → n <ℤ days_from_civil (pos (year_of n)) (month_of n + 1) 1
unfolding month_of
month_ends-early n h = last_start-ends (λ month. days_from_civil (pos (year_of n)) month 1) n 1 11 h

month_ends : (n : ℤ) → IsDay n → n <ℤ (days_from_civil (pos (year_of n)) (month_of n) 1 +ℤ pos (days_in_month (pos (year_of n)) (month_of n)))
month_ends n h = elim (cases_order (month_of n) 12) [
  | inr (inl lt) ↦ omega (arith, signed_arith, month_ends-early n lt, days_from_civil-day_count, day_count-next_month (pos (year_of n)) (month_of n) (month_low n))
  | inl last ↦ rw last (omega (arith, signed_arith, year_ends n h, days_from_civil-day_count, day_count-last_of_year (pos (year_of n)), day_count-day (pos (year_of n)) 12 31 1 (omega arith) (omega arith)))
  | inr (inr gt) ↦ absurd (omega (arith, month_high n))
]

pub abs_forward : (z : ℤ) → pos 0 ≤ℤ z → z ≡ pos (unsigned_abs z)
abs_forward (pos k) h = refl
abs_forward (negsuc k) h = absurd (omega (arith, signed_arith))

-- from a day to a later one
pub forward : (from to : ℤ) → from ≤ℤ to → to ≡ from +ℤ pos (unsigned_abs (to -ℤ from))
forward from to h = omega (arith, signed_arith, abs_forward (to -ℤ from) (omega (arith, signed_arith)))

pub day_high : (n : ℤ) → IsDay n → day_of_month n ≤ days_in_month (pos (year_of n)) (month_of n)
unfolding day_of_month
day_high n h = omega (arith, signed_arith, forward _ n (month_starts n h), month_ends n h)

-- the date has the number
pub days_from_civil-parts : (n : ℤ) → IsDay n → days_from_civil (pos (year_of n)) (month_of n) (day_of_month n) ≡ n
unfolding day_of_month
days_from_civil-parts n h = omega (arith, signed_arith, forward _ n (month_starts n h), days_from_civil-day (pos (year_of n)) (month_of n) (day_of_month n) 1 (day_low n) (omega arith))

is_date-true : (y m d : ℕ) → 1 ≤ y → y ≤ 9999 → 1 ≤ m → m ≤ 12 → 1 ≤ d → d ≤ days_in_month (pos y) m → is_date y m d ≡ true
is_date-true y m d a b c e f g = grind (arith, nat_tests)

-- and the calendar has it
pub is_date-parts : (n : ℤ) → IsDay n → is_date (year_of n) (month_of n) (day_of_month n) ≡ true
is_date-parts n h = is_date-true _ _ _ (year_low n) (year_high n) (month_low n) (month_high n) (day_low n) (day_high n h)

pub date_number-parts : (n : ℤ) → IsDay n → date_number (year_of n) (month_of n) (day_of_month n) ≡ Some n
date_number-parts n h = rw (is_date-parts n h, days_from_civil-parts n h)

date_of : (n : ℤ) → IsDay n → Date
date_of n h = record {
  year = pos (year_of n);
  month = month_of n;
  day = day_of_month n;
  year_in = omega (arith, signed_arith, year_high n);
  month_in = (month_low n, month_high n);
  day_in = (day_low n, day_high n h);
}

-- no other date has it
pub parts_of : (n : ℤ) (d : Date) → IsDay n → epoch_day d ≡ n → (d.year ≡ pos (year_of n)) × (d.month ≡ month_of n) × (d.day ≡ day_of_month n)
unfolding date_of
parts_of n d h e = epoch_day_injective d (date_of n h) (e ∙ sym (days_from_civil-parts n h))

-- a date from 0001-01-01 on is a day
pub day_of_date : (d : Date) → pos 1 ≤ℤ d.year → IsDay (epoch_day d)
day_of_date d h =
    let high = epoch_day_range d in
    let low : pos 3_652_791 ≤ℤ pos (day_count d.year d.month d.day) = by_lt_z (pos 1) d.year
    (λ lt. omega (arith, signed_arith, first_count, day_count-later_year (pos 1) d.year (omega (arith, signed_arith)) lt, day_count-day_of_year d.year d.month d.day d.day_in.0))
    (λ le. let e : d.year ≡ pos 1 = omega (arith, signed_arith) in rw e (omega (arith, signed_arith, first_count, day_count-day_of_year (pos 1) d.month d.day d.day_in.0))) in
    omega (arith, signed_arith, high, low, days_from_civil-day_count)

if_some : (found : Bool) (x n : ℤ) → (if found then Some x else None) ≡ Some n → (found ≡ true) × (x ≡ n)
if_some true x n e = (refl, cc)
if_some false x n e = cc

pub civil_of : (y m d : ℕ) → is_date y m d ≡ true → IsCivilDate (pos y) m d
civil_of y m d h = grind (arith, nat_tests, signed_arith)

year_span : (y m d : ℕ) → 1970 ≤ y → y ≤ 9998 → IsCivilDate (pos y) m d → IsBetween (pos 0) (pos 2932531) (days_from_civil (pos y) m d)
year_span y m d low high h =
    let here = day_count-day_of_year (pos y) m d h.2.0 in
    let bound = day_of_year_bound (pos y) m d h in
    let later = day_count-later_year (pos y) (pos 9999) (omega (arith, signed_arith)) (omega (arith, signed_arith)) in
    let first : day_count (pos 1970) 1 1 ≤ day_count (pos y) 1 1 = by_lt_z (pos 1970) (pos y)
    (λ lt. omega (arith, day_count-later_year (pos 1970) (pos y) (omega (arith, signed_arith)) lt))
    (λ le. let e : y ≡ 1970 = omega (arith, signed_arith) in rw e (omega arith)) in
    omega (arith, signed_arith, here, bound, later, first, days_from_civil-day_count, days_from_civil-max, day_count-last_of_year (pos 9999), day_count-epoch)

-- a date of the years 1970 to 9998 has a number from 0 to that of 9998-12-31
pub day_in_years : (y m d : ℕ) (n : ℤ) → date_number y m d ≡ Some n → 1970 ≤ y → y ≤ 9998 → IsBetween (pos 0) (pos 2932531) n
day_in_years y m d n e low high =
    let both = if_some (is_date y m d) (days_from_civil (pos y) m d) n e in
    rw (← both.1) (year_span y m d low high (civil_of y m d both.0))
