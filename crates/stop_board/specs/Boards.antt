-- What a board holds.
use Rattle.std.specs.Prelude.{◌≡◌, ◌<◌, true, List, length, slice_get, All, Some}
use Rattle.timetable.specs.Planned.{planned}
use Rattle.timetable.specs.declared.numbers.StopNo.{StopNo}
use Rattle.timetable.specs.declared.stop_row.StopRow.{StopRow}
use Rattle.journey_model.specs.Readings.{is_near}
use Rattle.journey_model.specs.Runs.{Run}
use Rattle.journey_model.specs.Schedules.{Schedule, run_on}
use Rattle.journey_model.specs.declared.readings.StopReading.TheVariants.{Timed}
use Rattle.stop_board.specs.declared.visits.Asked.{Asked}
use Rattle.stop_board.specs.declared.visits.Visit.{Visit}

-- what it was asked for, and the visits that were added, in the order in which they came
pub record Board : Type 0 where
  pub asked : Asked
  pub visits : List Visit

-- a visit is of a trip on a day: there is a stop at its position, and its times are at most a week from the planned
-- ones
pub record IsCall (run : Run) (stop : StopNo) (visit : Visit) : Type 0 where
  pub row : StopRow
  pub at : slice_get run.stops visit.position ≡ Some row
  pub near : is_near (planned run.start row) (Timed visit.arrival visit.departure stop) ≡ true

-- it is of a trip of the timetable, on a day of the window
pub record IsVisit (schedule : Schedule) (stop : StopNo) (visit : Visit) : Type 0 where
  pub trip_in : visit.trip.0 < length schedule.table.trips
  pub run : Run
  pub on_day : run_on schedule visit.trip.0 visit.day ≡ Some run
  pub call : IsCall run stop visit

-- so are all visits of a board: it is one over this schedule
abbrev pub IsOver : Schedule → Board → Type 0
IsOver schedule board = All (IsVisit schedule board.asked.stop) board.visits
