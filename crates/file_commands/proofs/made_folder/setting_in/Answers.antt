-- The scope is that of the folder's name and the zone's rule.
use Rattle.std.proofs.Common.{IfSome, None, subst}
use Rattle.gw_base.specs.Answers.{UnlessFree}
use Rattle.command_words.specs.Words.{Scope}
use Rattle.file_commands.specs.Exits.{is_free}
use Rattle.file_commands.specs.Work.{IsSettingOf}
use Rattle.file_commands.proofs.made_folder.setting_in.Goals as goal

pub returns : goal.returns
returns g c = record {
  told = subst (λ (scope : Scope). IfSome (g.F.Files.told c.args.files.now) (λ told. UnlessFree is_free c.setting.result (IsSettingOf scope None told)))
      c.made_scope.ensures.value c.setting.ensures.told;
}
