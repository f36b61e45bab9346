-- What the made files mean as a folder, with the zone and the window.
use Rattle.std.proofs.Common.{◌∙◌, Ok, Err, ap, subst, sym}
use Rattle.gw_base.specs.Answers.{UnlessFree}
use Rattle.gw_base.specs.Memory.{FilesInMemory}
use Rattle.gateway_core.specs.declared.setting.Setting.{Setting}
use Rattle.file_commands.specs.Exits.{is_free}
use Rattle.file_commands.specs.Samples.{IsMadeSetting}
use Rattle.file_commands.specs.declared.exit.Exit.{Exit}
use Rattle.file_commands.proofs.SampleLemmas.{in_memory, made_of}
use Rattle.file_commands.proofs.made_folder.made_setting.Goals as goal

pub returns-in-Ok-clause-told : goal.returns-in-Ok-clause-told
returns-in-Ok-clause-told c =
    made_of c.args.maker.now.trips c.args.maker.now.stops _ _ _ (Ok c.in-Ok.setting) c.in_ok-gtfs.ensures.same c.in_ok-rule.ensures.same
    (ap (λ (m : FilesInMemory). m.files) c.make-files.ensures ∙ c.in_ok-files.ensures) c.in-Ok.ensures.told

pub returns-clause-told : goal.returns-clause-told
returns-clause-told c =
    subst (λ (end : Exit). UnlessFree {T = Setting} is_free (Err end) (IsMadeSetting c.args.maker.now.trips c.args.maker.now.stops)) (sym c.from_memory.ensures)
    (in_memory (IsMadeSetting c.args.maker.now.trips c.args.maker.now.stops) c.in-Err.end
    (made_of c.args.maker.now.trips c.args.maker.now.stops _ _ _ (Err c.in-Err.end) c.in_ok-gtfs.ensures.same c.in_ok-rule.ensures.same
    (ap (λ (m : FilesInMemory). m.files) c.make-files.ensures ∙ c.in_ok-files.ensures) c.in-Err.ensures.told))
