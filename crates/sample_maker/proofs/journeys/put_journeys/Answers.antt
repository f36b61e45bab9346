-- One journey more.
use Rattle.std.proofs.Common.{ℕ, ◌+◌, ◌∙◌, sym, ap}
use Rattle.sample_maker.specs.Deliveries.{journey_at, journey_text}
use Rattle.sample_maker.specs.Draws.{after_stops, after_trips}
use Rattle.sample_maker.proofs.ListLemmas.{no_texts, text_more}
use Rattle.sample_maker.proofs.TripLemmas.{after_trips-0, after_trips-next}
use Rattle.sample_maker.proofs.journeys.put_journeys.Goals as goal

pub loop-n-init : goal.loop-n-init
loop-n-init c =
    (no_texts (journey_at c.args.stops c.args.from c.args.held) c.args.out.now, sym (after_trips-0 c.args.stops c.args.held))

pub loop-n-preserved : goal.loop-n-preserved
loop-n-preserved c =
    let stops = c.args.stops in
    let held = c.args.held in
    let n = c.loop-n.n in
    let so_far = c.loop-n.invariant in
    let added = rw so_far.1 at c.in_ok-after.ensures.added in (
      text_more (λ (i : ℕ). journey_text stops (c.args.from + i) (after_trips stops held i)) n c.args.out.now c.loop-n.out c.put_comma.new.out c.put_journey.new.out
          so_far.0 c.in_ok-put_comma.ensures added,
      c.in_ok-after.ensures.after ∙ (ap (λ (h : ℕ). (after_stops h stops).held) so_far.1 ∙ sym (after_trips-next stops held n)),
    )
