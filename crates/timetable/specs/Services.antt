-- On which days services run (GTFS Schedule reference, calendar.txt and calendar_dates.txt).
use Rattle.std.specs.Prelude.{◌&&◌, ℕ, ℤ, nat_eq, int_le, Bool, false, slice_get, unwrap_or, Option, Some, None}
use Rattle.std.specs.Ordering.{int_eq}
use Rattle.std.specs.HashMap.{HashMap, get}
use Rattle.std.specs.declared.hash.FoldHasher.{FoldHasher}
use Rattle.std.specs.declared.hash.BuildHasherDefault.{BuildHasherDefault}
use Rattle.jiff_core.specs.Calendar.{weekday_number}
use Rattle.timetable.specs.declared.calendar.Calendar.{Calendar}

-- the calendar has the day
abbrev pub has_day : Calendar → ℤ → Bool
has_day calendar day =
    int_le calendar.start day
    && (int_le day calendar.end && unwrap_or (slice_get calendar.weekdays (weekday_number day)) false)

-- an exception decides, then a calendar; a service of which nothing is said never runs
abbrev pub runs_by : Option Bool → Option Calendar → ℤ → Bool
runs_by (Some added) calendar day = added
runs_by None (Some calendar) day = has_day calendar day
runs_by None None day = false

-- the calendars of services by their numbers
abbrev pub Calendars : Type 0
Calendars = HashMap ℕ Calendar (BuildHasherDefault FoldHasher)

-- whether the day of a service is added or removed
abbrev pub Exceptions : Type 0
Exceptions = HashMap (ℕ × ℤ) Bool (BuildHasherDefault FoldHasher)

-- the calendar of a service by its number
abbrev pub calendar_at : Calendars → ℕ → Option Calendar
calendar_at calendars service = get nat_eq calendars service

-- the exception of a service on a day
abbrev pub exception_at : Exceptions → ℕ → ℤ → Option Bool
exception_at exceptions service day = get (λ x y. nat_eq x.0 y.0 && int_eq x.1 y.1) exceptions (service, day)
