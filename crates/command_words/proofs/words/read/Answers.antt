-- Words of which the first is the name of a command are those of that command.
use Rattle.std.proofs.Common.{sym, ◌∙◌}
use Rattle.command_words.proofs.WordLemmas.{board_said}
use Rattle.command_words.proofs.words.read.Goals as goal

pub board-requires : goal.board-requires
board-requires c = board_said c.args.words.now c.index-words-0.result c.index-words-0.is (sym c.as_str.ensures.same ∙ c.in-board.is) c.requires
