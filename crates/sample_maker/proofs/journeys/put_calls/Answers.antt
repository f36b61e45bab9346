-- One stop more.
use Rattle.std.proofs.Common.{◌∙◌, sym, ap}
use Rattle.sample_maker.specs.Deliveries.{calls_of}
use Rattle.sample_maker.specs.Draws.{after_stop}
use Rattle.sample_maker.specs.declared.draws.Draws.{Draws}
use Rattle.sample_maker.proofs.ListLemmas.{no_texts, none_below, some_more, texts_more}
use Rattle.sample_maker.proofs.TripLemmas.{after_stops-0, after_stops-next}
use Rattle.sample_maker.proofs.journeys.put_calls.Goals as goal

pub loop-place-init : goal.loop-place-init
loop-place-init c =
    let texts = calls_of c.args.trip c.args.held in
    (no_texts texts c.args.out.now, none_below texts, sym (after_stops-0 c.args.held))

pub loop-place-preserved : goal.loop-place-preserved
loop-place-preserved c =
    let texts = calls_of c.args.trip c.args.held in
    let place = c.loop-place.place in
    let so_far = c.loop-place.invariant in
    let added = rw so_far.2 at c.in_ok-later.ensures.added in
    let any = rw so_far.2 at c.in_ok-later.ensures.any in (
      texts_more texts place c.loop-place.later c.args.out.now c.loop-place.out c.put_call.new.out so_far.0 so_far.1 added,
      some_more texts place c.loop-place.later c.in_ok-later.later so_far.1 any,
      c.in_ok-later.ensures.after ∙ (ap (λ (draws : Draws). after_stop draws) so_far.2 ∙ sym (after_stops-next c.args.held place)),
    )
