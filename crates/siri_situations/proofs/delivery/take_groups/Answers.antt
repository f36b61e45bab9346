use Rattle.gw_base.specs.declared.member.Member.{Member}
use Rattle.siri_json.specs.Frame.{repeated_under}
use Rattle.siri_situations.specs.Shown.{seen}
use Rattle.siri_situations.specs.Situations.{verdict}
use Rattle.siri_json.proofs.DeliveryLemmas.{places_step}
use Rattle.siri_situations.proofs.delivery.take_groups.Goals as goal

pub loop-group-preserved : goal.loop-group-preserved
loop-group-preserved g c = λ first earlier has.
    places_step (g.T.TakesSituations.has_taken c.args.context.now first c.take_group.new.taker) (verdict c.args.context.now) (repeated_under Member.PtSituationElement) seen
    earlier c.args.groups.now c.loop-group.group-index c.group-item.result c.loop-group-test.true c.group-item.is
    (c.in_ok-take_group.ensures first _ (c.loop-group.invariant first earlier has))
