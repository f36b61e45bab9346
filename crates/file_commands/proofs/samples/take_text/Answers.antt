-- An end over the file in memory.
use Rattle.std.proofs.Common.{◌≡◌, ◌∷◌, [], Err, rules, subst, sym}
use Rattle.gw_base.specs.Answers.{UnlessFree}
use Rattle.journey_model.specs.declared.report.Report.{Report}
use Rattle.file_commands.specs.Exits.{is_free}
use Rattle.file_commands.specs.Made.{made, made_at}
use Rattle.file_commands.specs.Samples.{GivesText}
use Rattle.file_commands.specs.Served.{Takes}
use Rattle.file_commands.specs.declared.exit.Exit.{Exit}
use Rattle.file_commands.proofs.SampleLemmas.{in_memory, text_given}
use Rattle.file_commands.proofs.samples.take_text.Goals as goal

pub returns-clause-told : goal.returns-clause-told
returns-clause-told c = λ arrivals stands.
    let files : c.make-files.result.files ≡ (made, c.args.text) ∷ [] = search rules in
    subst (λ (end : Exit). UnlessFree {T = Report} is_free (Err end) (Takes (GivesText c.args.gate.now.setting c.args.text arrivals) made_at arrivals c.file_taken.new.gate))
    (sym c.from_memory.ensures)
    (in_memory (Takes (GivesText c.args.gate.now.setting c.args.text arrivals) made_at arrivals c.file_taken.new.gate) c.in-Err.end
    (text_given c.args.gate.now.setting c.args.text _ _ arrivals c.file_taken.new.gate (Err c.in-Err.end) files c.made_moment.ensures (c.in-Err.ensures.told arrivals stands)))
