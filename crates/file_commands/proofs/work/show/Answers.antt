-- The setting, and then the lines of the feed.
use Rattle.std.proofs.Common.{None}
use Rattle.gw_base.proofs.AnswerLemmas.{went_on}
use Rattle.file_commands.specs.Exits.{is_free}
use Rattle.file_commands.specs.Work.{IsLinesOfFile, IsSettingOf}
use Rattle.command_words.specs.Works.{scope_of}
use Rattle.file_commands.proofs.StepLemmas.{ended}
use Rattle.file_commands.proofs.work.show.Goals as goal

pub returns-in-Ok-clause-told : goal.returns-in-Ok-clause-told
returns-in-Ok-clause-told g c =
    let second = rw c.setting.ensures.same at c.lines_of_file.ensures.told in
    went_on (g.F.Files.told c.args.files.now) is_free (λ files. IsSettingOf (scope_of c.args.scope.now) None files)
    (λ files setting. IsLinesOfFile setting c.args.feed.now files) c.in-Ok.setting c.lines_of_file.result c.in-Ok.ensures.told second

pub returns-in-Err-clause-told : goal.returns-in-Err-clause-told
returns-in-Err-clause-told g c =
    ended (g.F.Files.told c.args.files.now) is_free (λ files. IsSettingOf (scope_of c.args.scope.now) None files)
    (λ files setting. IsLinesOfFile setting c.args.feed.now files) c.in-Err.end c.in-Err.ensures.told
