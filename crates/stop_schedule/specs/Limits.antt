-- The limits of a folder: each is written once, here. What cites one names it.
use Rattle.std.specs.Prelude.{ℕ}
use Rattle.timetable.specs.Limits.{trip_limit}
use Rattle.stop_schedule.specs.declared.table_file.TableFile.{TableFile}
use Rattle.stop_schedule.specs.declared.table_file.TableFile.TheVariants.{Agency, Stops, Routes, Trips, Calendar, CalendarDates, Frequencies, StopTimes}

-- the bytes that a file has at most
abbrev pub file_limit : ℕ
file_limit = 268435456

-- and its data rows
abbrev pub row_limit : TableFile → ℕ
row_limit Agency = 10000
row_limit Stops = 100000
row_limit Routes = 100000
row_limit Trips = trip_limit
row_limit Calendar = 200000
row_limit CalendarDates = 4000000
row_limit Frequencies = 200000
row_limit StopTimes = 4000000
