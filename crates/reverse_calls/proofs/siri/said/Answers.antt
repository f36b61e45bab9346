use Rattle.std.proofs.Common.{subst}
use Rattle.gw_base.specs.Moments.{IsMoment}
use Rattle.timetable.specs.Sound.{IsSound}
use Rattle.journey_model.specs.Schedules.{Schedule}
use Rattle.reverse_calls.proofs.SaidLemmas.{says_all}
use Rattle.reverse_calls.proofs.siri.said.Goals as goal

pub returns-clause-again : goal.returns-clause-again
returns-clause-again c = λ servable.
    let at = subst IsMoment c.secs.ensures.value c.secs.ensures.range in
    says_all c.args.context.now c.args.moment c.args.journeys.now c.write_delivery.result c.write_delivery.ensures.text
    (subst (λ (lent : Schedule). IsSound lent.table) c.context.view_is c.soundness_law.ensures) at (c.all_sayable_law.ensures servable)
