-- The gateway's setting is the one that it started with.
use Rattle.std.proofs.Common.{IfSome, subst}
use Rattle.gw_base.specs.Answers.{UnlessFree}
use Rattle.gateway_core.specs.declared.setting.Setting.{Setting}
use Rattle.file_commands.specs.Exits.{is_free}
use Rattle.file_commands.specs.Work.{IsBoardOfFiles}
use Rattle.command_words.specs.Works.{board_of}
use Rattle.file_commands.proofs.boards.board_of_files.Goals as goal

pub returns-clause-told : goal.returns-clause-told
returns-clause-told g c =
    subst (λ (s : Setting). IfSome (g.F.Files.told c.args.files.now)
    (λ told. UnlessFree is_free c.board_taken.result (IsBoardOfFiles (board_of c.args.board.now) s told c.args.stop)))
    c.in_ok-gate.ensures.setting c.board_taken.ensures.told
