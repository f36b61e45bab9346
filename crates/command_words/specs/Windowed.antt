-- Windows that can be made, commands that can be carried out, and which of them read files.
use Rattle.std.specs.Prelude.{◌≤◌, ℕ, ℤ, Bool, true, false, pos, ◌+ℤ◌, ◌-ℤ◌}
use Rattle.service_day.specs.Starts.{IsServiceDay}
use Rattle.sample_maker.specs.Making.{IsSample}
use Rattle.command_words.specs.Forms.{most_days}
use Rattle.command_words.specs.Words.{Task, board_task, gtfsrt_task, make_task, show_task, siri_task, sx_task}

-- so many days from the first on are days of a window, from 1971 to 9997
pub record HasWindow (first : ℤ) (days : ℕ) : Type 0 where
  pub some_days : 1 ≤ days
  pub few_days : days ≤ most_days
  pub first_in : IsServiceDay first
  pub last_in : IsServiceDay (first +ℤ pos days -ℤ pos 1)

-- what a command works over has a window, and the numbers of a sample are in their ranges
abbrev pub CanRun : Task → Type 0
CanRun (gtfsrt_task command) = HasWindow command.scope.from command.scope.days
CanRun (siri_task command) = HasWindow command.scope.from command.scope.days
CanRun (sx_task command) = HasWindow command.scope.from command.scope.days
CanRun (show_task command) = HasWindow command.scope.from command.scope.days
CanRun (board_task command) = HasWindow command.scope.from command.scope.days
CanRun (make_task command) = IsSample command.seed command.trips command.stops

-- a command reads files
abbrev pub reads_files : Task → Bool
reads_files (gtfsrt_task command) = true
reads_files (siri_task command) = true
reads_files (sx_task command) = true
reads_files (show_task command) = true
reads_files (board_task command) = true
reads_files (make_task command) = false
