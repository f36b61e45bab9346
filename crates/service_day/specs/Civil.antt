-- Dates and times of day as the records of `jiff`, from a day number and a second of the day.
use Rattle.std.specs.Prelude.{ℕ, ◌/◌, ◌%◌, min, ℤ, pos}
use Rattle.jiff_core.specs.Calendar.{days_in_month}
use Rattle.jiff_core.specs.declared.civil.date.Date.{Date}
use Rattle.jiff_core.specs.declared.civil.datetime.DateTime.{DateTime}
use Rattle.jiff_core.specs.declared.civil.time.Time.{Time}
use Rattle.service_day.specs.Days.{year_of, month_of, day_of_month}
use Rattle.service_day.specs.DateBounds.{year_in, month_in, day_in, hour_in, sixty_in, nanos_in}

-- the date of a day; a number that is no day's gets some date
unfoldable pub date_of : ℤ → Date
date_of day = record {
  year = pos (year_of day);
  month = month_of day;
  day = min (day_of_month day) (days_in_month (pos (year_of day)) (month_of day));
  year_in = year_in day;
  month_in = month_in day;
  day_in = day_in day;
}

-- the time of day that a clock shows so many seconds after it showed midnight
unfoldable pub time_of : ℕ → Time
time_of second = record {
  hour = second / 3600 % 24;
  minute = second / 60 % 60;
  second = second % 60;
  subsec_nanosecond = 0;
  hour_in = hour_in second;
  minute_in = sixty_in (second / 60);
  second_in = sixty_in second;
  subsec_in = nanos_in;
}

-- the two together
abbrev pub shown_at : ℤ → ℕ → DateTime
shown_at day second = record { date = date_of day; time = time_of second }
