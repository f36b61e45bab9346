-- The two spellings of a date: `YYYY-MM-DD` and `YYYYMMDD` (ISO 8601; the second is the Date of GTFS).
use Rattle.std.specs.Prelude.{ℕ, ℤ, Option, None, if◌then◌else◌, List, ◌∷◌, ◌++◌, codes}
use Rattle.service_day.specs.Digits.{has_form, two_at, four_at, two_digits, four_digits}
use Rattle.service_day.specs.Days.{date_number, year_of, month_of, day_of_month}
use Rattle.service_day.specs.declared.days.DayForm.{DayForm}
use Rattle.service_day.specs.declared.days.DayForm.TheVariants.{Dashed, Compact, Either}

-- the forms, where `0` stands for any digit
abbrev pub dashed_form : List ℕ
dashed_form = codes "0000-00-00"

abbrev pub compact_form : List ℕ
compact_form = codes "00000000"

-- the number of the day that a dashed text names
unfoldable pub dashed_day : List ℕ → Option ℤ
dashed_day text =
    if has_form dashed_form text then date_number (four_at text 0) (two_at text 5) (two_at text 8) else None

-- the number of the day that a compact text names
unfoldable pub compact_day : List ℕ → Option ℤ
compact_day text =
    if has_form compact_form text then date_number (four_at text 0) (two_at text 4) (two_at text 6) else None

-- the number of the day that a text names in a form
abbrev pub day_of : DayForm → List ℕ → Option ℤ
day_of Dashed text = dashed_day text
day_of Compact text = compact_day text
day_of Either text = if has_form dashed_form text then dashed_day text else compact_day text

-- the day as `YYYY-MM-DD`
unfoldable pub dashed_text : ℤ → List ℕ
dashed_text number =
    four_digits (year_of number) ++ 45 ∷ two_digits (month_of number) ++ 45 ∷ two_digits (day_of_month number)

-- the day as `YYYYMMDD`
unfoldable pub compact_text : ℤ → List ℕ
compact_text number =
    four_digits (year_of number) ++ two_digits (month_of number) ++ two_digits (day_of_month number)
