-- The text and the report are those of the feed.
use Rattle.std.proofs.Common.{subst}
use Rattle.gw_base.specs.Moments.{IsMoment}
use Rattle.journey_model.specs.Schedules.{Schedule, schedule_from}
use Rattle.reverse_alerts.specs.Sx.{IsSx}
use Rattle.reverse_alerts.proofs.SxLemmas.{is_sx}
use Rattle.reverse_alerts.proofs.sx.sx_of_full.Goals as goal

pub returns-in-Ok : goal.returns-in-Ok
returns-in-Ok c =
    let at = subst IsMoment c.secs.ensures.value c.secs.ensures.range in
    subst (λ (lent : Schedule). IsSx lent c.args.feed.now c.args.moment c.in-Ok.both.0 c.in-Ok.both.1) c.context.view_is (is_sx
    (schedule_from c.context.inside.table.now c.context.inside.zone.now c.context.inside.window.now)
    c.args.feed.now c.args.moment c.in-Ok.both.0 c.in-Ok.both.1 c.soundness_law.ensures at
    (rw c.as_slice-entities.ensures.same at c.all_utf8_law.ensures) (rw c.as_slice-entities.ensures.same at c.in-Ok.ensures.text)
    (rw c.as_slice-entities.ensures.same at c.in-Ok.ensures.report))
