-- What was taken is what the body makes.
use Rattle.std.proofs.Common.{◌≡◌, ◌∙◌, drop, filter, List, subst, sym}
use Rattle.siri_calls.specs.Verdicts.{verdicts}
use Rattle.siri_json.proofs.DeliveryLemmas.{from_read}
use Rattle.siri_json.specs.Deliveries.{tree_of}
use Rattle.gateway_core.specs.Arrivals.{is_within}
use Rattle.gateway_core.specs.JourneySteps.{HasTaken, MakesJourneys, seen_after}
use Rattle.gateway_core.specs.Standing.{JourneyEntry, KeepsJourneys}
use Rattle.gateway_core.specs.declared.items.journeys.JourneyTaking.{JourneyTaking}
use Rattle.gateway_core.proofs.EstimatedLemmas.{journeys_made, journeys_refused, seen_over, seen_put, taking_makes}
use Rattle.gateway_core.proofs.JourneyLemmas.{takes_none}
use Rattle.gateway_core.proofs.take.journeys.made_of.Goals as goal

pub returns-in-Err-clause-refuses : goal.returns-in-Err-clause-refuses
returns-in-Err-clause-refuses c =
    let first : JourneyTaking = record { draft = c.over.result; tally = c.new.result } in
    journeys_refused c.args.context.now c.args.body.now (λ _ all. HasTaken c.args.context.now first c.hand_on_journeys.new.taker all) c.in-Err.fault
    (c.in-Err.ensures first (takes_none c.args.context.now first c.new.ensures))

pub returns-clause-makes : goal.returns-clause-makes
returns-clause-makes c = λ before h.
    let schedule = c.args.context.now in
    let first : JourneyTaking = record { draft = c.over.result; tally = c.new.result } in
    let kept = drop c.args.expired c.args.journeys.now.entries in
    let reads = c.in-Ok.ensures first (takes_none schedule first c.new.ensures) in
    let same =
    from_read (λ _ all. HasTaken schedule first c.hand_on_journeys.new.taker all) (verdicts schedule) (tree_of c.args.body.now) _ (c.hand_on_journeys.new.taker.draft.kept ≡ kept)
    (λ all has. has.kept_is ∙ c.over.ensures.kept) reads in
    let made =
    journeys_made schedule c.args.body.now (λ _ all. HasTaken schedule first c.hand_on_journeys.new.taker all) before _ c.into_report-report.result (seen_after c.hand_on_journeys.new.taker.draft)
    (λ all has. taking_makes schedule before first c.hand_on_journeys.new.taker c.into_report-report.result all
    (subst (λ (es : List JourneyEntry). KeepsJourneys schedule (filter (is_within schedule.window) before) es)
    (sym (seen_over c.over.result kept c.over.ensures.kept c.over.ensures.empty)) h)
    c.into_report-report.ensures has)
    reads in
    subst (λ (es : List JourneyEntry). MakesJourneys schedule before c.args.body.now c.into_report-report.result es)
    (seen_put c.hand_on_journeys.new.taker.draft kept c.into_batch.result.entries same c.into_batch.ensures.after) made
