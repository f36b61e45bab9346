-- What journeys are read over.
use Rattle.std.specs.Prelude.{◌≡◌, ◌<◌, ℕ, ℤ, Bool, true, length, Option, Some, option_map, is_some, refl}
use Rattle.service_day.specs.Windows.{DayStarts, start_in}
use Rattle.service_day.specs.declared.zones.Rules.{Rules}
use Rattle.timetable.specs.Seen.{seen}
use Rattle.timetable.specs.Table.{Table}
use Rattle.timetable.specs.declared.timetable.Timetable.{Timetable}
use Rattle.journey_model.specs.Readings.{fits_trip}
use Rattle.journey_model.specs.Runs.{Run}
use Rattle.journey_model.specs.declared.readings.JourneyReading.{JourneyReading}

-- a timetable and the table that it shows, the zone of its times, and the window of service days
pub record Schedule : Type 0 where
  pub timetable : Timetable
  pub table : Table
  pub zone : Rules
  pub window : DayStarts
  pub shows : seen timetable ≡ table

-- the schedule of a timetable in a zone over a window
abbrev pub schedule_from : Timetable → Rules → DayStarts → Schedule
schedule_from timetable zone window =
    record { timetable = timetable; table = seen timetable; zone = zone; window = window; shows = refl }

-- a trip on a day that starts at that second
abbrev pub run_from : Table → ℕ → ℤ → Run
run_from table trip start =
    record { ids = table.stops; station_of = table.station_of; start = start; stops = table.stops_of trip }

-- a trip on a day, if the day is in the window
abbrev pub run_on : Schedule → ℕ → ℤ → Option Run
run_on schedule trip day = option_map (run_from schedule.table trip) (start_in schedule.window day)

abbrev pub in_window : Schedule → ℤ → Bool
in_window schedule day = is_some (start_in schedule.window day)

-- a reading of a trip on a day fits a schedule: the trip is there, the day is in the window, and there is one reading
-- for each stop, at most a week from the planned times and at a place of the stop's station
pub record FitsSchedule (schedule : Schedule) (trip : ℕ) (day : ℤ) (reading : JourneyReading) : Type 0 where
  pub trip_in : trip < length schedule.table.trips
  pub run : Run
  pub on_day : run_on schedule trip day ≡ Some run
  pub fits : fits_trip run reading ≡ true

-- it can be served: it fits, and the trip runs on the day
pub record IsServable (schedule : Schedule) (trip : ℕ) (day : ℤ) (reading : JourneyReading) : Type 0 where
  pub fits_schedule : FitsSchedule schedule trip day reading
  pub open fits_schedule use *
  pub runs : schedule.table.runs trip day ≡ true
