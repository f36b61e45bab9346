-- The work of each command that writes its result and ends.
use Rattle.std.specs.Prelude.{[], Option, IfSome, Result}
use Rattle.command_words.specs.Words.{Task, board_task, gtfsrt_task, make_task, show_task, siri_task, sx_task}
use Rattle.file_commands.specs.Done.{Done}
use Rattle.file_commands.specs.Samples.{IsMakeWork}
use Rattle.file_commands.specs.Work.{Directory, IsBoardWork, IsShowWork, IsToGtfsrtWork, IsToSiriSxWork, IsToSiriWork}
use Rattle.file_commands.specs.declared.exit.Exit.{Exit}

-- the work of a command; that of `make` reads no files
abbrev pub IsTaskWork : Task → Directory → Result Done Exit → Type 0
IsTaskWork (gtfsrt_task command) = IsToGtfsrtWork command
IsTaskWork (siri_task command) = IsToSiriWork command
IsTaskWork (sx_task command) = IsToSiriSxWork command
IsTaskWork (show_task command) = IsShowWork command
IsTaskWork (board_task command) = IsBoardWork command
IsTaskWork (make_task command) = λ files. IsMakeWork command

-- what is said of a command over the files that are told: `make` reads none, so that it holds of it whatever is told
abbrev pub OverFiles : Task → Option Directory → (Directory → Type 0) → Type 0
OverFiles (gtfsrt_task command) told Says = IfSome told Says
OverFiles (siri_task command) told Says = IfSome told Says
OverFiles (sx_task command) told Says = IfSome told Says
OverFiles (show_task command) told Says = IfSome told Says
OverFiles (board_task command) told Says = IfSome told Says
OverFiles (make_task command) told Says = Says []
