-- Both texts are those of the board.
use Rattle.command_words.specs.Works.{board_of}
use Rattle.file_commands.proofs.BoardLemmas.{board_shown}
use Rattle.file_commands.proofs.boards.board_of_gate.Goals as goal

pub returns-clause-told : goal.returns-clause-told
returns-clause-told c =
    board_shown (board_of c.args.board.now) c.args.gate.now.setting c.args.stop c.args.gate.now c.args.reports c.in_ok-out.out c.texts.result c.texts.ensures c.in_ok-out.ensures.shows
