-- What is left of the journeys, the window and the text are those of one arrival more; a refusal is that of the read.
use Rattle.std.proofs.Common.{◌≡◌, ◌∙◌, ◌∷◌, ℤ, List, ap, drop, map, refl, subst, sym}
use Rattle.std.specs.Prelude.{filter}
use Rattle.gateway_core.specs.Arrivals.{admitted, is_within, moments_of, schedule_at, window_at}
use Rattle.gateway_core.specs.Arriving.{Arriving}
use Rattle.gateway_core.specs.Changes.{kept_of}
use Rattle.gateway_core.specs.Standing.{JourneyEntry, KeepsJourneys, journey_seen, situation_seen}
use Rattle.gateway_core.proofs.FeedAnswers.{answer_refused, answer_taken, parts_refused, parts_say, parts_stand}
use Rattle.gateway_core.proofs.SeenLemmas.{journeys_drop}
use Rattle.gateway_core.proofs.take.feed.prepare_arrived.Goals as goal

pub read_text-requires : goal.read_text-requires
read_text-requires c = record {
  stands = (
    c.requires.stands.0,
    rw c.context_over-context.ensures
        (parts_stand c.args.setting.now c.args.setting.now c.args.taking
        (record { moment = c.taking.inside.moment; window = c.taking.inside.window; reader = c.taking.inside.reader; fold = c.taking.inside.fold })
        c.requires.stands.0 refl c.taking.view_is c.requires.stands.1),
  );
}

pub returns-in-Err-clause-answers : goal.returns-in-Err-clause-answers
returns-in-Err-clause-answers c = λ arrivals h rolls bytes stands now.
    answer_refused (kept_of c.args.setting.now c.args.state.now) now arrivals c.args.taking.moment bytes c.in-Err.refusal c.args.taking.window rolls
    (parts_refused c.args.setting.now c.args.setting.now c.args.taking
    (record { moment = c.taking.inside.moment; window = c.taking.inside.window; reader = c.taking.inside.reader; fold = c.taking.inside.fold })
    bytes c.in-Err.refusal refl c.taking.view_is stands (rw c.context_over-context.ensures at c.in-Err.ensures.refuses))

pub returns-clause-answers : goal.returns-clause-answers
returns-clause-answers c = λ arrivals h rolls bytes stands now changed.
    let gone = c.window_move-window.result.expired in
    let setting = c.args.setting.now in
    let old = c.args.state.now in
    let at : c.taking.inside.moment ≡ c.args.taking.moment = ap (λ (t : Arriving). t.moment) c.taking.view_is in
    let own : c.window_move-window.result.window ≡ window_at setting (c.args.taking.moment ∷ moments_of arrivals) =
    subst (λ (m : ℤ). c.window_move-window.result.window ≡ window_at setting (m ∷ moments_of arrivals)) at (c.window_move-window.ensures.rolls arrivals h) in
    let left : drop gone (map journey_seen old.journeys.entries) ≡ map journey_seen now.journeys.entries =
    journeys_drop old.journeys.entries gone ∙ ap (map journey_seen) (sym changed.journeys_are) in
    answer_taken (kept_of setting old) (kept_of setting now) arrivals c.args.taking.moment bytes c.in-Ok.both.0 c.in-Ok.both.1 c.args.taking.window h rolls
    (parts_say setting setting c.args.taking
    (record { moment = c.taking.inside.moment; window = c.taking.inside.window; reader = c.taking.inside.reader; fold = c.taking.inside.fold })
    bytes c.in-Ok.both.0 c.in-Ok.both.1.report refl c.taking.view_is stands (rw c.context_over-context.ensures at c.in-Ok.ensures.says))
    refl (changed.window_is ∙ own ∙ sym rolls)
    (subst
    (λ (entries : List JourneyEntry).
    KeepsJourneys (schedule_at setting (c.args.taking.moment ∷ moments_of arrivals))
    (filter (is_within (window_at setting (c.args.taking.moment ∷ moments_of arrivals))) (admitted setting arrivals)) entries)
    left
    (subst
    (λ (m : ℤ).
    KeepsJourneys (schedule_at setting (m ∷ moments_of arrivals))
    (filter (is_within (window_at setting (m ∷ moments_of arrivals))) (admitted setting arrivals)) (drop gone (map journey_seen old.journeys.entries)))
    at (c.window_move-window.ensures.keeps arrivals h)))
    (ap (map situation_seen) changed.situations_are) (sym changed.text_is)

pub returns-clause-text : goal.returns-clause-text
returns-clause-text c = c.in-Ok.ensures.text
