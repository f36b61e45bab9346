-- A trip on a day, as updates and calls are read over it.
use Rattle.std.specs.Prelude.{ℕ, ℤ, pos, List, slice_get}
use Rattle.std.specs.Option.{option_map_or}
use Rattle.timetable.specs.Planned.{planned}
use Rattle.timetable.specs.declared.numbers.StopNo.{StopNo}
use Rattle.timetable.specs.declared.stop_row.StopRow.{StopRow}

-- the ids of the timetable's stops, by which they are numbered; of a stop by its number that of its station; the second
-- at which the service day starts; and the stops of the trip with their planned times
pub record Run : Type 0 where
  pub ids : List (List ℕ)
  pub station_of : ℕ → ℕ
  pub start : ℤ
  pub stops : List StopRow

-- the planned arrival and departure at a position
abbrev pub planned_at : Run → ℕ → ℤ × ℤ
planned_at run position = option_map_or (planned run.start) (slice_get run.stops position) (pos 0, pos 0)

-- the scheduled stop at a position
abbrev pub stop_at : Run → ℕ → StopNo
stop_at run position = option_map_or (λ row. row.stop) (slice_get run.stops position) (record { 0 = 0 })
