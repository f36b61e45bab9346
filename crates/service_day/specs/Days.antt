-- Days of the proleptic Gregorian calendar (ISO 8601), by their number of days since 1970-01-01.
use Rattle.std.specs.Prelude.{ℕ, zero, suc, ◌+◌, Bool, ◌&&◌, nat_le, if◌then◌else◌, ℤ, pos, neg_ℤ, ◌-ℤ◌, int_le, unsigned_abs, Option, Some, None}
use Rattle.jiff_core.specs.Calendar.{IsBetween, days_in_month, days_from_civil}

-- the number of a day from 0001-01-01 to 9999-12-31
abbrev pub IsDay : ℤ → Type 0
IsDay number = IsBetween (neg_ℤ (pos 719162)) (pos 2932896) number

-- the calendar has this date in the years 1 to 9999
abbrev pub is_date : ℕ → ℕ → ℕ → Bool
is_date year month day =
    nat_le 1 year && nat_le year 9999 && nat_le 1 month && nat_le month 12
    && nat_le 1 day && nat_le day (days_in_month (pos year) month)

-- the number of a date, where the calendar has it
abbrev pub date_number : ℕ → ℕ → ℕ → Option ℤ
date_number year month day =
    if is_date year month day then Some (days_from_civil (pos year) month day) else None

-- the greatest number from `low` to `low + more` whose start isn't after the day; `low` where none is
unfoldable pub last_start : (ℕ → ℤ) → ℤ → ℕ → ℕ → ℕ
last_start start number low zero = low
last_start start number low (suc more) =
    if int_le (start (low + suc more)) number then low + suc more else last_start start number low more

-- the year of a day: the last one whose 1 January isn't after it
unfoldable pub year_of : ℤ → ℕ
year_of number = last_start (λ year. days_from_civil (pos year) 1 1) number 1 9998

-- its month: the last one of the year whose first day isn't after it
unfoldable pub month_of : ℤ → ℕ
month_of number = last_start (λ month. days_from_civil (pos (year_of number)) month 1) number 1 11

-- its day of the month, counted from 1
unfoldable pub day_of_month : ℤ → ℕ
day_of_month number =
    unsigned_abs (number -ℤ days_from_civil (pos (year_of number)) (month_of number) 1) + 1
