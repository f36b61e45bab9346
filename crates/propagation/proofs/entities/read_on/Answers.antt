use Rattle.std.proofs.Common.{◌∙◌, ap, sym}
use Rattle.journey_model.specs.Dated.{run_of}
use Rattle.journey_model.specs.Schedules.{Schedule, run_on}
use Rattle.propagation.specs.Folding.{bare_feed}
use Rattle.propagation.proofs.EntityLemmas.{said_there}
use Rattle.propagation.proofs.entities.read_on.Goals as goal

pub returns-then-runs : goal.returns-then-runs
returns-then-runs c =
    let schedule = c.args.context.now in
    said_there schedule (bare_feed c.args.timestamp) c.args.update.now c.args.trip.0 c.in-Some.dated.trip.0 c.args.day
    c.in-Some.dated.day
    (run_on schedule c.args.trip.0 c.args.day) (run_of c.args.context.now.table c.in-Some.dated)
    c.read_dated.result
    c.in-Some.ensures.value (ap (λ trip. trip.0) c.in-Some.ensures.names.0) c.in-Some.ensures.names.1
    (ap (λ (lent : Schedule). lent.table.runs c.args.trip.0 c.args.day) (sym c.context.view_is) ∙ sym c.runs.ensures ∙ c.if-runs.true)
    c.read_dated.ensures
