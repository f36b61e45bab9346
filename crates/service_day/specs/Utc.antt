-- UTC moments in the form `YYYY-MM-DDThh:mm:ssZ` (ISO 8601), of the years 1970 to 9998.
use Rattle.std.specs.Prelude.{ℕ, ◌+◌, ◌*◌, ◌/◌, ◌%◌, Bool, ◌&&◌, nat_lt, if◌then◌else◌, ℤ, pos, ◌+ℤ◌, ◌*ℤ◌, unsigned_abs, Option, Some, None, List, [], ◌∷◌, ◌++◌, codes}
use Rattle.gw_base.specs.Moments.{is_moment}
use Rattle.service_day.specs.Digits.{has_form, two_at, four_at, two_digits}
use Rattle.service_day.specs.Days.{date_number}
use Rattle.service_day.specs.DayTexts.{dashed_text}

-- a clock shows this hour, minute and second
abbrev pub is_clock : ℕ → ℕ → ℕ → Bool
is_clock hour minute second = nat_lt hour 24 && nat_lt minute 60 && nat_lt second 60

-- seconds from the start of 1970 to a time of a day, where each day has 86,400 seconds
abbrev pub seconds_at : ℤ → ℕ → ℕ → ℕ → ℤ
seconds_at day hour minute second = day *ℤ pos 86400 +ℤ pos (3600 * hour + 60 * minute + second)

-- the moment, where the number is one
abbrev pub moment_if : ℤ → Option ℤ
moment_if secs = if is_moment secs then Some secs else None

-- the moment at a clock's time of a day, where there is such a day and such a time
abbrev pub moment_at : Option ℤ → ℕ → ℕ → ℕ → Option ℤ
moment_at None hour minute second = None
moment_at (Some day) hour minute second =
    if is_clock hour minute second then moment_if (seconds_at day hour minute second) else None

-- the form, where `0` stands for any digit
abbrev pub utc_form : List ℕ
utc_form = codes "0000-00-00T00:00:00Z"

-- the moment that a text names
unfoldable pub utc_of : List ℕ → Option ℤ
utc_of text =
    if has_form utc_form text
    then moment_at (date_number (four_at text 0) (two_at text 5) (two_at text 8)) (two_at text 11) (two_at text 14)
    (two_at text 17)
    else None

-- the hours, minutes and seconds of a second of the day
abbrev pub clock_text : ℕ → List ℕ
clock_text second =
    two_digits (second / 3600) ++ 58 ∷ two_digits (second / 60 % 60) ++ 58 ∷ two_digits (second % 60)

-- the moment as `YYYY-MM-DDThh:mm:ssZ`
unfoldable pub moment_text : ℤ → List ℕ
moment_text secs =
    dashed_text (pos (unsigned_abs secs / 86400)) ++ 84 ∷ clock_text (unsigned_abs secs % 86400) ++ 90 ∷ []
