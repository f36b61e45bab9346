-- Each command's work is that of its words.
use Rattle.file_commands.proofs.work.task_work.Goals as goal

pub to_gtfsrt-requires : goal.to_gtfsrt-requires
to_gtfsrt-requires g c = rw c.in-ToGtfsrt.is at c.requires

pub to_siri-requires : goal.to_siri-requires
to_siri-requires g c = rw c.in-ToSiri.is at c.requires

pub to_siri_sx-requires : goal.to_siri_sx-requires
to_siri_sx-requires g c = rw c.in-ToSiriSx.is at c.requires

pub show-requires : goal.show-requires
show-requires g c = rw c.in-Show.is at c.requires

pub board-requires : goal.board-requires
board-requires g c = rw c.in-Board.is at c.requires

pub made_line-requires : goal.made_line-requires
made_line-requires g c = rw c.in-Make.is at c.requires

pub returns-in-ToGtfsrt-clause-told : goal.returns-in-ToGtfsrt-clause-told
returns-in-ToGtfsrt-clause-told g c = rw c.in-ToGtfsrt.is c.to_gtfsrt.ensures.told

pub returns-in-ToSiri-clause-told : goal.returns-in-ToSiri-clause-told
returns-in-ToSiri-clause-told g c = rw c.in-ToSiri.is (rw c.as_str.ensures.same at c.to_siri.ensures.told)

pub returns-in-ToSiriSx-clause-told : goal.returns-in-ToSiriSx-clause-told
returns-in-ToSiriSx-clause-told g c = rw c.in-ToSiriSx.is (rw c.as_str-in-ToSiriSx.ensures.same at c.to_siri_sx.ensures.told)

pub returns-in-Show-clause-told : goal.returns-in-Show-clause-told
returns-in-Show-clause-told g c = rw c.in-Show.is (rw c.as_str-in-Show.ensures.same at c.show.ensures.told)

pub returns-in-Board-clause-told : goal.returns-in-Board-clause-told
returns-in-Board-clause-told g c = rw c.in-Board.is c.board.ensures.told

pub returns-in-Make-clause-told : goal.returns-in-Make-clause-told
returns-in-Make-clause-told g c = rw c.in-Make.is c.made_line.ensures.told
