-- On which days services run (GTFS Schedule reference, calendar.txt and calendar_dates.txt).
use Rattle.std.specs.Prelude.{◌&&◌, ℕ, ℤ, pos, Bool, List, [], ◌∷◌, find, unwrap_or, codes, Option, option_map}
use Rattle.std.specs.Ordering.{int_eq}
use Rattle.std.specs.Str.{bytes_eq}
use Rattle.stop_schedule.specs.Forms.{date}
use Rattle.stop_schedule.specs.Places as places
use Rattle.stop_schedule.specs.Sheet.{Row, nth}
use Rattle.timetable.specs.declared.calendar.Calendar.{Calendar}

-- the field of a column is `1`
abbrev pub is_one : ℕ → Row → Bool
is_one column row = bytes_eq (nth column row) (codes "1")

-- the day that the field of a column names
abbrev pub day_in : ℕ → Row → Option ℤ
day_in column row = date (nth column row)

-- the same, where the field is known to name one
abbrev pub day_at : ℕ → Row → ℤ
day_at column row = unwrap_or (day_in column row) (pos 0)

-- the weekdays of a row of calendar.txt, from Monday on
abbrev pub weekdays : Row → List Bool
weekdays row =
    is_one places.calendar_monday row ∷ is_one places.calendar_tuesday row ∷ is_one places.calendar_wednesday row
    ∷ is_one places.calendar_thursday row ∷ is_one places.calendar_friday row ∷ is_one places.calendar_saturday row
    ∷ is_one places.calendar_sunday row ∷ []

-- what a row of calendar.txt says of its service
abbrev pub calendar_of : Row → Calendar
calendar_of row = record {
  weekdays = weekdays row;
  start = day_at places.calendar_start_date row;
  end = day_at places.calendar_end_date row;
}

-- the day of a row of calendar_dates.txt
abbrev pub day_of_row : Row → ℤ
day_of_row row = day_at places.dates_date row

-- a row of calendar.txt is of that service
abbrev pub is_of : List ℕ → Row → Bool
is_of service row = bytes_eq service (nth places.calendar_service_id row)

-- a row of calendar_dates.txt is of that service and that day
abbrev pub is_exception : List ℕ → ℤ → Row → Bool
is_exception service day row = bytes_eq service (nth places.dates_service_id row) && int_eq (day_of_row row) day

-- what the rows of calendar.txt say of a service, if they say anything
abbrev pub calendar_in : List Row → List ℕ → Option Calendar
calendar_in calendars service = option_map calendar_of (find (is_of service) calendars)

-- whether the rows of calendar_dates.txt add or remove the day of a service, if they say anything of it
abbrev pub exception_in : List Row → List ℕ → ℤ → Option Bool
exception_in dates service day = option_map (is_one places.dates_exception_type) (find (is_exception service day) dates)
