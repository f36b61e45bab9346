-- The timetable, and what is after it.
use Rattle.gw_base.proofs.AnswerLemmas.{went_on}
use Rattle.file_commands.specs.Exits.{is_free}
use Rattle.file_commands.specs.Work.{IsFolder, IsSettingOver}
use Rattle.command_words.specs.Works.{zone_of}
use Rattle.file_commands.proofs.StepLemmas.{ended}
use Rattle.file_commands.proofs.opening.setting.Goals as goal

pub returns-in-Ok-clause-told : goal.returns-in-Ok-clause-told
returns-in-Ok-clause-told g c =
    let scope = c.args.scope.now in
    let first = rw c.as_str.ensures.same at c.in-Ok.ensures.told in
    let second = rw c.folder.ensures.same at c.setting_over.ensures.told in
    went_on (g.F.Files.told c.args.files.now) is_free (λ files. IsFolder scope.gtfs.now files)
    (λ files table. IsSettingOver table (zone_of scope.zone) scope.from scope.days c.args.keep files) c.in-Ok.table c.setting_over.result first second

pub returns-in-Err-clause-told : goal.returns-in-Err-clause-told
returns-in-Err-clause-told g c =
    let scope = c.args.scope.now in
    let first = rw c.as_str.ensures.same at c.in-Err.ensures.told in
    ended (g.F.Files.told c.args.files.now) is_free (λ files. IsFolder scope.gtfs.now files)
    (λ files table. IsSettingOver table (zone_of scope.zone) scope.from scope.days c.args.keep files) c.in-Err.end first
