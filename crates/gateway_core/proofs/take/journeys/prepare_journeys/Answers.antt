-- What was made is put after what is left, over the window that rolled.
use Rattle.std.proofs.Common.{◌∙◌, ap, drop, List, map, refl}
use Rattle.feed_index.specs.Entries.{put_all}
use Rattle.feed_index.specs.declared.entry.Entry.{Entry}
use Rattle.service_day.specs.declared.moments.Instant.{Instant}
use Rattle.gateway_core.specs.Changes.{kept_of}
use Rattle.gateway_core.specs.JourneySteps.{key_order}
use Rattle.gateway_core.specs.Standing.{journey_seen, situation_seen}
use Rattle.gateway_core.specs.declared.keys.JourneyKey.{JourneyKey}
use Rattle.gateway_core.proofs.EstimatedLemmas.{journeys_accepted, journeys_not_accepted}
use Rattle.gateway_core.proofs.take.journeys.prepare_journeys.Goals as goal

pub returns-in-Err-clause-answers : goal.returns-in-Err-clause-answers
returns-in-Err-clause-answers c = λ arrivals h now.
    journeys_not_accepted (kept_of c.args.setting.now c.args.state.now) now arrivals c.args.moment c.args.body.now c.args.setting.now c.window_move-window.result.window
    refl (c.window_move-window.ensures.rolls arrivals h) c.in-Err.fault
    (rw c.context_over-context.ensures at c.in-Err.ensures.refuses)

pub returns-in-Ok-prepare-clause-answers : goal.returns-in-Ok-prepare-clause-answers
returns-in-Ok-prepare-clause-answers c = λ arrivals h now changed.
    let gone = c.window_move-window.result.expired in
    journeys_accepted (kept_of c.args.setting.now c.args.state.now) (kept_of c.args.setting.now now)
    arrivals c.args.moment c.args.body.now c.args.setting.now c.window_move-window.result.window
    refl (c.window_move-window.ensures.rolls arrivals h)
    c.in-Ok.made.accepted c.args.state.now.journeys.entries c.in-Ok.made.batch.entries gone h
    refl (c.window_move-window.ensures.keeps arrivals h) (rw c.context_over-context.ensures at c.in-Ok.ensures.makes) refl changed.window_is
    (ap (map journey_seen)
    (changed.journeys_are ∙ ap (λ (all : List (Entry JourneyKey Instant)). put_all key_order (drop gone all) c.in-Ok.made.batch.entries) c.prepare.ensures.same.journeys_are))
    (ap (map situation_seen) (changed.situations_are ∙ c.prepare.ensures.same.situations_are)) (changed.text_is ∙ c.prepare.ensures.same.text_is)
