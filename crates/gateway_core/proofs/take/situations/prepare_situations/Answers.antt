-- What is put among the alerts, what is left of the journeys, and the window are those of one arrival more; a refusal is that of the read.
use Rattle.std.proofs.Common.{◌≡◌, ◌∙◌, ◌∷◌, ℕ, List, ap, drop, map, refl, subst, sym}
use Rattle.std.specs.Prelude.{filter}
use Rattle.std.specs.Cmp.Lexicographic.{slice_cmp}
use Rattle.std.specs.Ordering.{nat_cmp}
use Rattle.feed_index.specs.Entries.{put_all}
use Rattle.feed_index.specs.declared.entry.Entry.{Entry}
use Rattle.gateway_core.specs.Arrivals.{admitted, admitted_situations, is_within, moments_of, schedule_at, window_at}
use Rattle.gateway_core.specs.Changes.{kept_of}
use Rattle.gateway_core.specs.Standing.{JourneyEntry, KeepsJourneys, journey_seen, situation_seen}
use Rattle.gateway_core.specs.declared.keys.Edition.{Edition}
use Rattle.gateway_core.proofs.SeenLemmas.{journeys_drop}
use Rattle.gateway_core.proofs.SituationAnswers.{answer_refused, answer_taken}
use Rattle.gateway_core.proofs.take.situations.prepare_situations.Goals as goal

pub returns-in-Err-clause-answers : goal.returns-in-Err-clause-answers
returns-in-Err-clause-answers c = λ arrivals h now.
    answer_refused (kept_of c.args.setting.now c.args.state.now) now arrivals c.args.moment c.args.body.now c.in-Err.fault c.window_move-window.result.window
    (c.window_move-window.ensures.rolls arrivals h) (rw c.context_over-context.ensures at c.in-Err.ensures.refuses)

pub returns-in-Ok-prepare-clause-answers : goal.returns-in-Ok-prepare-clause-answers
returns-in-Ok-prepare-clause-answers c = λ arrivals h now changed.
    let gone = c.window_move-window.result.expired in
    let setting = c.args.setting.now in
    let old = c.args.state.now in
    let left : drop gone (map journey_seen old.journeys.entries) ≡ map journey_seen now.journeys.entries =
    journeys_drop old.journeys.entries gone ∙ ap (map journey_seen) (sym (changed.journeys_are ∙ ap (drop gone) c.prepare.ensures.same.journeys_are)) in
    answer_taken (kept_of setting old) (kept_of setting now) arrivals c.args.moment c.args.body.now c.in-Ok.made.accepted c.window_move-window.result.window
    (map situation_seen (put_all (slice_cmp nat_cmp) old.situations.entries c.in-Ok.made.batch.entries)) h (c.window_move-window.ensures.rolls arrivals h)
    ((rw c.context_over-context.ensures at c.in-Ok.ensures.takes) (admitted_situations arrivals) h.situations_are)
    refl changed.window_is
    (subst
    (λ (entries : List JourneyEntry).
    KeepsJourneys (schedule_at setting (c.args.moment ∷ moments_of arrivals)) (filter (is_within (window_at setting (c.args.moment ∷ moments_of arrivals))) (admitted setting arrivals)) entries)
    left (c.window_move-window.ensures.keeps arrivals h))
    (ap (map situation_seen)
    (sym (changed.situations_are ∙ ap (λ (ready : List (Entry (List ℕ) Edition)). put_all (slice_cmp nat_cmp) ready c.in-Ok.made.batch.entries) c.prepare.ensures.same.situations_are)))
    (changed.text_is ∙ c.prepare.ensures.same.text_is)
