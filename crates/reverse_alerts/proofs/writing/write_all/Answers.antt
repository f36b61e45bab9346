-- One entity more, and the end.
use Rattle.std.proofs.Common.{◌∙◌}
use Rattle.timetable.specs.Seen.{seen}
use Rattle.reverse_alerts.proofs.ProgressLemmas.{run_begins, run_ends, run_goes_on}
use Rattle.reverse_alerts.proofs.writing.write_all.Goals as goal

pub loop-number-init : goal.loop-number-init
loop-number-init c =
    rw (c.in_ok-writing.ensures.text, c.in_ok-writing.ensures.report) (run_begins (seen c.args.table.now) c.args.moment c.args.entities.now)

pub loop-number-preserved : goal.loop-number-preserved
loop-number-preserved c =
    run_goes_on (seen c.args.table.now) c.args.moment c.args.entities.now c.loop-number.number c.index-entities-number.result
    c.loop-number.writing.text _ c.loop-number.writing.report _ c.loop-number-test.true c.index-entities-number.is c.loop-number.invariant
    c.in_ok-take_entity.ensures.text c.in_ok-take_entity.ensures.report

pub returns-clause-text : goal.returns-clause-text
returns-clause-text c =
    let ends = run_ends (seen c.args.table.now) c.args.moment c.args.entities.now c.loop-number.number c.loop-number.writing.text c.loop-number.writing.report
    c.loop-number-test.false c.loop-number.invariant in
    c.in_ok-extend.ensures.added ∙ ends.0

pub returns-clause-report : goal.returns-clause-report
returns-clause-report c =
    let ends = run_ends (seen c.args.table.now) c.args.moment c.args.entities.now c.loop-number.number c.loop-number.writing.text c.loop-number.writing.report
    c.loop-number-test.false c.loop-number.invariant in
    ends.1
