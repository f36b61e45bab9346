-- The planned times of a stop (GTFS Schedule reference, stop_times.txt).
use Rattle.std.specs.Prelude.{ℤ, pos, ◌+ℤ◌}
use Rattle.timetable.specs.declared.stop_row.StopRow.{StopRow}

-- the planned arrival and departure in seconds since 1970, where the service day starts at `start`: times count from
-- the start of the service day, which is local noon minus 12 hours
abbrev pub planned : ℤ → StopRow → ℤ × ℤ
planned start row = (start +ℤ pos row.arrival, start +ℤ pos row.departure)
