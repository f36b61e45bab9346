-- The forms of fields (GTFS Schedule reference, field types).
use Rattle.std.specs.Prelude.{◌==◌, ◌&&◌, ◌||◌, ◌+◌, ◌-◌, ◌*◌, ℕ, ℤ, Bool, true, not, nat_le, nat_lt, List, length, slice_index, drop, codes, Option, Some, None, is_some, if◌then◌else◌}
use Rattle.std.specs.List.{list_all}
use Rattle.std.specs.Str.{bytes_eq}
use Rattle.service_day.specs.DayTexts.{day_of}
use Rattle.service_day.specs.declared.days.DayForm.TheVariants.{Compact}
use Rattle.std.specs.Char.{is_ascii_digit}
use Rattle.timetable.specs.Digits.{digits_value}
use Rattle.timetable.specs.Limits.{number_limit}
use Rattle.stop_schedule.specs.declared.forms.Form.{Form}
use Rattle.stop_schedule.specs.declared.forms.Form.TheVariants.{Any, Id, OptionalId, Flag, Exception, Date, Sequence, Time}

abbrev pub are_digits : List ℕ → Bool
are_digits text = list_all is_ascii_digit text

-- the number, where it has at most 32 bits
abbrev pub small : ℕ → Option ℕ
small value = if nat_le value number_limit then Some value else None

-- the number of a stop in its trip: 1 to 10 digits of at most 32 bits
unfoldable pub sequence : List ℕ → Option ℕ
sequence text =
    if (length text == 0) || nat_lt 10 (length text) || not (are_digits text) then None else small (digits_value 0 text)

-- the number that two digits name
abbrev pub two : ℕ → ℕ → ℕ
two tens ones = 10 * (tens - 48) + (ones - 48)

-- two bytes are the digits of a number below 60
abbrev pub is_sixty : ℕ → ℕ → Bool
is_sixty tens ones = is_ascii_digit tens && (is_ascii_digit ones && nat_lt (two tens ones) 60)

-- a byte and seven others are `HH:MM:SS` with minutes and seconds below 60; 58 is the colon
abbrev pub is_clock : ℕ → List ℕ → Bool
is_clock tens rest =
    is_ascii_digit tens && (is_ascii_digit (slice_index rest 0) && ((slice_index rest 1 == 58)
    && (is_sixty (slice_index rest 2) (slice_index rest 3) && ((slice_index rest 4 == 58)
    && is_sixty (slice_index rest 5) (slice_index rest 6)))))

-- the seconds that they name
abbrev pub clock : ℕ → List ℕ → Option ℕ
clock tens rest =
    if is_clock tens rest
    then Some (3600 * two tens (slice_index rest 0) + 60 * two (slice_index rest 2) (slice_index rest 3)
    + two (slice_index rest 5) (slice_index rest 6))
    else None

-- the seconds of a time of day, `H:MM:SS` or `HH:MM:SS`, which may pass midnight
unfoldable pub seconds : List ℕ → Option ℕ
seconds text =
    if length text == 7 then clock 48 text
    else (if length text == 8 then clock (slice_index text 0) (drop 1 text) else None)

-- the day of a date `YYYYMMDD`, as its number since 1970-01-01
abbrev pub date : List ℕ → Option ℤ
date text = day_of Compact text

-- the text has the form
abbrev pub fits : Form → List ℕ → Bool
fits Any text = true
fits Id text = not (length text == 0)
fits OptionalId text = true
fits Flag text = bytes_eq text (codes "0") || bytes_eq text (codes "1")
fits Exception text = bytes_eq text (codes "1") || bytes_eq text (codes "2")
fits Date text = is_some (date text)
fits Sequence text = is_some (sequence text)
fits Time text = (length text == 0) || is_some (seconds text)
