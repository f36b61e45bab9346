-- What was taken is what the body makes.
use Rattle.std.proofs.Common.{◌≡◌, ◌∙◌, map, List, subst, sym}
use Rattle.std.specs.Cmp.Lexicographic.{slice_cmp}
use Rattle.std.specs.Ordering.{nat_cmp}
use Rattle.feed_index.specs.Entries.{put_all}
use Rattle.feed_index.specs.Drafts.{after}
use Rattle.journey_model.specs.declared.report.Report.{Report}
use Rattle.siri_situations.specs.Situations.{verdicts}
use Rattle.siri_json.proofs.DeliveryLemmas.{from_read}
use Rattle.siri_json.specs.Deliveries.{tree_of}
use Rattle.gateway_core.specs.SituationSteps.{HasTaken, TakesBody, alerts_after}
use Rattle.gateway_core.specs.Standing.{KeepsSituations, SituationEntry, situation_seen}
use Rattle.gateway_core.specs.declared.items.situations.SituationTaking.{SituationTaking}
use Rattle.gateway_core.proofs.SituationAnswers.{alerts_over, alerts_put, body_refused, takes_body, taking_makes}
use Rattle.gateway_core.proofs.SituationLemmas.{takes_none}
use Rattle.gateway_core.proofs.take.situations.made_of.Goals as goal

pub returns-in-Err-clause-refuses : goal.returns-in-Err-clause-refuses
returns-in-Err-clause-refuses c =
    let first : SituationTaking = record { draft = c.over.result; tally = c.new.result } in
    body_refused c.args.context.now c.args.body.now (λ _ all. HasTaken c.args.context.now first c.hand_on_situations.new.taker all) c.in-Err.fault
    (c.in-Err.ensures first (takes_none c.args.context.now first c.new.ensures))

pub returns-in-Ok-with_text-clause-takes : goal.returns-in-Ok-with_text-clause-takes
returns-in-Ok-with_text-clause-takes c = λ before h.
    let schedule = c.args.context.now in
    let first : SituationTaking = record { draft = c.over.result; tally = c.new.result } in
    let kept = c.args.kept.now.entries in
    let reads = c.in-Ok.ensures first (takes_none schedule first c.new.ensures) in
    let same =
    from_read (λ _ all. HasTaken schedule first c.hand_on_situations.new.taker all) (verdicts schedule) (tree_of c.args.body.now) _ (c.hand_on_situations.new.taker.draft.kept ≡ kept)
    (λ all has. has.kept_is ∙ c.over.ensures.kept) reads in
    let made =
    takes_body schedule c.args.body.now (λ _ all. HasTaken schedule first c.hand_on_situations.new.taker all) before _ c.into_report.result (alerts_after c.hand_on_situations.new.taker.draft)
    (λ all has. taking_makes schedule before first c.hand_on_situations.new.taker c.into_report.result all
    (subst (λ (es : List SituationEntry). KeepsSituations schedule.table before es) (sym (alerts_over c.over.result kept c.over.ensures.kept c.over.ensures.empty)) h)
    c.into_report.ensures has)
    reads in
    subst (λ (report : Report). TakesBody schedule before c.args.body.now (map situation_seen (put_all (slice_cmp nat_cmp) kept c.into_batch.result.entries)) report) (sym c.in-Ok-with_text.ensures.report)
    (subst (λ (es : List SituationEntry). TakesBody schedule before c.args.body.now es c.into_report.result)
    (alerts_put c.hand_on_situations.new.taker.draft kept c.into_batch.result.entries same c.into_batch.ensures.after) made)
