use Rattle.siri_calls.specs.Frame.{items_below}
use Rattle.siri_calls.specs.Shown.{place_of}
use Rattle.siri_calls.specs.Verdicts.{verdict}
use Rattle.siri_json.proofs.DeliveryLemmas.{places_step}
use Rattle.siri_calls.proofs.delivery.take_frames.Goals as goal

pub loop-frame-preserved : goal.loop-frame-preserved
loop-frame-preserved g c = λ first earlier has.
    let schedule = c.args.context.now in
    places_step (g.T.TakesJourneys.has_taken schedule first c.take_below.new.taker) (verdict schedule) items_below place_of earlier
    c.args.frames.now c.loop-frame.frame-index c.frame-item.result c.loop-frame-test.true c.frame-item.is
    (c.in_ok-take_below.ensures first _ (c.loop-frame.invariant first earlier has))
