use Rattle.std.proofs.Common.{◌∙◌, Ok, Err, sym}
use Rattle.timetable.specs.Seen.{seen}
use Rattle.journey_model.specs.Dated.{run_of}
use Rattle.propagation.proofs.PlaceLemmas.{placed_said}
use Rattle.propagation.proofs.placing.placed_at.Goals as goal

pub returns-in-Ok-clause-value : goal.returns-in-Ok-clause-value
returns-in-Ok-clause-value c =
    placed_said (run_of (seen c.args.table.now) c.args.dated.now) c.args.number c.args.position c.args.update.now
    (Ok c.in-Ok.says) (sym c.in-Ok.is ∙ c.says_at.ensures)

pub returns-in-Err-clause-value : goal.returns-in-Err-clause-value
returns-in-Err-clause-value c =
    placed_said (run_of (seen c.args.table.now) c.args.dated.now) c.args.number c.args.position c.args.update.now
    (Err c.in-Err.fault) (sym c.in-Err.is ∙ c.says_at.ensures)
