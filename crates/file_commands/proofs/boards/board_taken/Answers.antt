-- What arrived, and the board of the gateway that took it.
use Rattle.std.proofs.Common.{◌<◌, length, subst, sym}
use Rattle.gateway_core.specs.declared.setting.Setting.{Setting}
use Rattle.command_words.specs.Works.{board_of}
use Rattle.file_commands.proofs.BoardLemmas.{board_found, no_board}
use Rattle.file_commands.proofs.boards.board_taken.Goals as goal

pub board_of_gate-requires-clause-stop : goal.board_of_gate-requires-clause-stop
board_of_gate-requires-clause-stop g c =
    subst (λ (s : Setting). c.args.stop.0 < length s.table.stops) (sym c.deliveries.ensures.setting) c.requires.stop

pub returns-in-Ok-clause-told : goal.returns-in-Ok-clause-told
returns-in-Ok-clause-told g c =
    board_found (g.F.Files.told c.args.files.now) (board_of c.args.board.now) c.args.gate.now.setting c.deliveries.new.gate.setting c.args.stop c.deliveries.new.gate c.in-Ok.reports
    c.board_of_gate.result c.deliveries.ensures.setting c.in-Ok.ensures.told c.board_of_gate.ensures.told

pub returns-in-Err-clause-told : goal.returns-in-Err-clause-told
returns-in-Err-clause-told g c =
    no_board (g.F.Files.told c.args.files.now) (board_of c.args.board.now) c.args.gate.now.setting c.args.stop c.deliveries.new.gate c.in-Err.end c.in-Err.ensures.told
