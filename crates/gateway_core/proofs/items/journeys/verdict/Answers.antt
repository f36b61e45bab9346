-- A record meets the value of its journey, or that there is none.
use Rattle.std.proofs.Common.{◌∙◌, ap}
use Rattle.feed_index.specs.Entries.{value_at}
use Rattle.feed_index.specs.Drafts.{after}
use Rattle.gateway_core.specs.JourneySteps.{key_order}
use Rattle.gateway_core.specs.declared.keys.JourneyKey.{JourneyKey}
use Rattle.gateway_core.proofs.JourneyLemmas.{verdict_found, verdict_full, verdict_new}
use Rattle.gateway_core.proofs.items.journeys.verdict.Goals as goal

pub returns-in-Some : goal.returns-in-Some
returns-in-Some c =
    verdict_found (after key_order c.args.draft.now) c.args.rec.now c.in-Some.old.now c.wins.result
    (c.in-Some.ensures.value ∙ ap (λ (key : JourneyKey). value_at key_order (after key_order c.args.draft.now) key) c.key_of.ensures) c.wins.ensures

pub returns-then-len-lt-MOST_JOURNEYS : goal.returns-then-len-lt-MOST_JOURNEYS
returns-then-len-lt-MOST_JOURNEYS c =
    verdict_new (after key_order c.args.draft.now) c.args.rec.now c.len.result
    (c.in-None.ensures.value ∙ ap (λ (key : JourneyKey). value_at key_order (after key_order c.args.draft.now) key) c.key_of.ensures)
    c.len.ensures.value c.if-len-lt-MOST_JOURNEYS.true

pub returns-else-len-lt-MOST_JOURNEYS : goal.returns-else-len-lt-MOST_JOURNEYS
returns-else-len-lt-MOST_JOURNEYS c =
    verdict_full (after key_order c.args.draft.now) c.args.rec.now c.len.result
    (c.in-None.ensures.value ∙ ap (λ (key : JourneyKey). value_at key_order (after key_order c.args.draft.now) key) c.key_of.ensures)
    c.len.ensures.value c.if-len-lt-MOST_JOURNEYS.false
