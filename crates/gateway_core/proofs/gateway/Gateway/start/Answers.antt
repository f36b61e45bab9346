-- Nothing is kept, and the text is that of no journeys.
use Rattle.std.proofs.Common.{◌≡◌, ◌∙◌, ap, subst, sym, ℕ, ℤ, [], pos, map, List, Option, IfSome}
use Rattle.journey_model.specs.Schedules.{Schedule}
use Rattle.journey_model.specs.declared.readings.DatedReading.{DatedReading}
use Rattle.service_day.specs.declared.moments.Instant.{Instant}
use Rattle.gw_base.specs.Moments.{IsMoment}
use Rattle.siri_calls.specs.Written.DeliveryTree.{delivery_text}
use Rattle.siri_calls.specs.Written.SaidAgain.{SaysAgain}
use Rattle.siri_calls.specs.Written.Sayable.{IsSayable}
use Rattle.siri_calls.proofs.Written.SaidAgain.{says_again}
use Rattle.std.proofs.lemmas.List.Elements.{All-nil}
use Rattle.feed_index.specs.Entries.{Kept as Indexed}
use Rattle.gateway_core.specs.Arrivals.{schedule_at}
use Rattle.gateway_core.specs.Standing.{journey_seen, situation_seen}
use Rattle.gateway_core.specs.declared.keys.Edition.{Edition}
use Rattle.gateway_core.specs.declared.keys.JourneyKey.{JourneyKey}
use Rattle.gateway_core.proofs.StandingLemmas.{stands_none}
use Rattle.gateway_core.proofs.RollingLemmas.{starts_as, starts_in}
use Rattle.gateway_core.proofs.gateway.Gateway.start.Goals as goal

pub returns-clause-stands : goal.returns-clause-stands
returns-clause-stands c =
    let setting = c.args.setting in
    stands_none _
    (starts_as setting c.in_ok-window.window c.first.result c.days.result c.first.ensures.value c.days.ensures.value c.in_ok-window.ensures.value)
    (ap (λ (k : Indexed JourneyKey Instant). map journey_seen k.entries) c.make-2.ensures.empty)
    (ap (λ (k : Indexed (List ℕ) Edition). map situation_seen k.entries) c.make-3.ensures.empty)
    (is_text, subst (SaysAgain (schedule_at setting []) (pos 0) []) (sym is_text) (says_again (schedule_at setting []) (pos 0) [] c.soundness_law.ensures at (All-nil (IsSayable (schedule_at setting [])))))
  where
    moment : c.unwrap-moment.result ≡ pos 0
    moment = subst (λ (m : Option ℤ). IfSome m (λ secs. secs ≡ pos 0)) c.unwrap-moment.ensures c.new.ensures.value

    at : IsMoment (pos 0)
    at = subst IsMoment (c.secs.ensures.value ∙ moment) c.secs.ensures.range

    is_text : c.in_ok-text.text ≡ delivery_text (schedule_at c.args.setting []) (pos 0) []
    is_text =
        c.in_ok-text.ensures.text
        ∙ ap (λ (s : Schedule). delivery_text s c.unwrap-moment.result c.as_slice.result.now) (c.context.ensures.shows ∙ starts_in c.args.setting c.args.setting.own_window)
        ∙ ap (λ (secs : ℤ). delivery_text (schedule_at c.args.setting []) secs c.as_slice.result.now) moment
        ∙ ap (λ (all : List DatedReading). delivery_text (schedule_at c.args.setting []) (pos 0) all) (c.as_slice.ensures.same ∙ c.new-nothing.ensures.empty)
