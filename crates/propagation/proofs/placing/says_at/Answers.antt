use Rattle.std.proofs.Common.{◌∙◌, sym}
use Rattle.timetable.specs.Seen.{seen}
use Rattle.journey_model.specs.Dated.{run_of}
use Rattle.propagation.proofs.PlaceLemmas.{no_data-says, skipped-says}
use Rattle.propagation.proofs.placing.says_at.Goals as goal

pub returns-then-is_skipped : goal.returns-then-is_skipped
returns-then-is_skipped c =
    skipped-says (run_of (seen c.args.table.now) c.args.dated.now) c.args.number c.args.position c.args.update.now
    (sym c.is_skipped.ensures ∙ c.if-is_skipped.true)

pub returns-then-is_no_data : goal.returns-then-is_no_data
returns-then-is_no_data c =
    no_data-says (run_of (seen c.args.table.now) c.args.dated.now) c.args.number c.args.position c.args.update.now
    (sym c.is_skipped.ensures ∙ c.if-is_skipped.false) (sym c.is_no_data.ensures ∙ c.if-is_no_data.true)
