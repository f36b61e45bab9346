-- The rows of the table.
use Rattle.std.proofs.Common.{refl}
use Rattle.command_words.specs.Words.{board, commands, make, serve, show, to_gtfsrt, to_siri, to_siri_sx}
use Rattle.command_words.proofs.words.commands.Goals as goal

pub returns-clause-rows : goal.returns-clause-rows
unfolding commands serve to_gtfsrt to_siri to_siri_sx show board make
returns-clause-rows c = refl
