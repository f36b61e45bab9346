-- Kept bodies that are taken one after the other: each brings one thing, and what brings something isn't refused.
use Rattle.std.proofs.Common.{◌≡◌, ◌≢◌, ℕ, ℤ, ◌≤◌, true, false, List, [], ◌∷◌, ◌++◌, Some, Result, Ok, Err, refl, sym, ◌∙◌, ap, subst, arith}
use Rattle.std.proofs.lemmas.Bool.{true≢false}
use Rattle.std.proofs.lemmas.List.Sorted.{sum_by-IsPermutation}
use Rattle.std.proofs.lemmas.Option.{same_Some}
use Rattle.std.specs.Prelude.{map, min}
use Rattle.std.specs.Result.{result_ok}
use Rattle.gw_base.specs.Count.{last_count}
use Rattle.gw_base.specs.declared.kind.Kind.{Kind}
use Rattle.gw_base.specs.declared.kind.Kind.TheVariants as kind
use Rattle.gw_base.specs.declared.member.Member.{Member}
use Rattle.gw_base.specs.declared.messages.Feed.{Feed}
use Rattle.feed_reading.specs.Tables.{MeansFeed}
use Rattle.journey_model.specs.FeedReadings.{given_all, is_differential, last_of_each, readings}
use Rattle.journey_model.specs.Records.{Recorded}
use Rattle.journey_model.specs.Schedules.{Schedule}
use Rattle.journey_model.specs.declared.fault.Fault.{Fault}
use Rattle.journey_model.specs.declared.report.Report.{Report}
use Rattle.journey_model.specs.declared.situation.Situation.{Situation}
use Rattle.reverse_calls.specs.Siri.{HasTooMany, IsSiri, call_count, most_calls, stop_count}
use Rattle.serde_json.specs.Data.{Data}
use Rattle.siri_calls.specs.Verdicts as journey_items
use Rattle.siri_json.specs.Deliveries.{tree_of, without_count}
use Rattle.siri_situations.specs.Situations as situation_items
use Rattle.timetable.specs.Seen.{seen}
use Rattle.delivery_journal.specs.Kept.{KeptBody}
use Rattle.gateway_core.specs.Arrivals.{Arrival, Given, feed, journeys, moments_of, schedule_at, situations}
use Rattle.gateway_core.specs.Bodies.{Brings, Refuses, RefusesDelivery, RefusesFeed}
use Rattle.gateway_core.specs.Deliveries.{taken}
use Rattle.gateway_core.specs.Taking.{TakesFeed, TakesJourneys, TakesSituations, limited_verdicts}
use Rattle.gateway_core.specs.declared.setting.Setting.{Setting}
use Rattle.gateway_core.specs.declared.take.body.BodyRefusal.{BodyRefusal}
use Rattle.gateway_core.specs.declared.take.body.BodyRefusal.TheVariants as because
use Rattle.gateway_durable.specs.Reopening.{CanReplay, IsRefusedAt}
use Rattle.gateway_durable.specs.Replays.{Replays}

same_ok : {A E : Type 0} (a b : A) → ◌≡◌ {A = Result A E} (Ok a) (Ok b) → a ≡ b
same_ok a b e = same_Some a b (ap result_ok e)

-- ---- a body

-- a feed has one count of calls
one_count : (schedule : Schedule) (one : Feed) (moment : ℤ) (text : List ℕ) (report : Report) (calls : ℕ)
    → IsSiri schedule one moment text report → HasTooMany schedule one calls → ⊥
one_count schedule one moment text report calls siri many =
    let few : calls ≤ most_calls = subst (λ (n : ℕ). n ≤ most_calls) (same ∙ sym many.count) siri.few in
    omega (arith, few, many.over)
  where
    same : call_count schedule siri.found.journeys ≡ call_count schedule many.found.journeys
    same =
        ap (λ (n : ℕ). min n last_count)
        (sum_by-IsPermutation (stop_count schedule) (last_of_each (given_all (readings schedule one))) siri.found.journeys siri.reading.same
        ∙ sym (sum_by-IsPermutation (stop_count schedule) (last_of_each (given_all (readings schedule one))) many.found.journeys many.reading.same))

-- a delivery whose items are judged isn't refused, but for want of memory
delivery_not_refused : {A : Type 0} (verdicts : Data → Result A Member) (bytes : List ℕ) (root : Data) (all : A)
    → tree_of bytes ≡ Some root → verdicts root ≡ Ok all → (why : BodyRefusal) → why ≢ because.Memory
    → RefusesDelivery (λ one member. verdicts one ≡ Err member) bytes why → ⊥
delivery_not_refused verdicts bytes root all is judged because.NotJson other refuses = absurd (cc)
delivery_not_refused verdicts bytes root all is judged (because.NotDelivery member) other refuses =
    not_both (sym judged ∙ ap verdicts (same_Some root refuses.0 (sym is ∙ refuses.1)) ∙ refuses.2)
  where
    not_both : ◌≡◌ {A = Result _ Member} (Ok all) (Err member) → ⊥
    not_both e = cc
delivery_not_refused verdicts bytes root all is judged (because.Feed found) other refuses = refuses
delivery_not_refused verdicts bytes root all is judged because.Differential other refuses = refuses
delivery_not_refused verdicts bytes root all is judged (because.TooManyCalls calls) other refuses = refuses
delivery_not_refused verdicts bytes root all is judged because.Memory other refuses = other refl

module _ (one_feed : (bytes : List ℕ) (one other : Feed) → MeansFeed bytes one → MeansFeed bytes other → one ≡ other) where
  module _ (setting : Setting) (arrivals : List Arrival) (moment : ℤ) (bytes : List ℕ) where
    feed_not_refused : (report : Report) (one : Feed) → TakesFeed setting arrivals moment bytes report one → (why : BodyRefusal) → why ≢ because.Memory
        → RefusesFeed (schedule_at setting (moment ∷ moments_of arrivals)) bytes why → ⊥
    feed_not_refused report one takes because.NotJson other refuses = refuses
    feed_not_refused report one takes (because.NotDelivery member) other refuses = refuses
    feed_not_refused report one takes (because.Feed found) other refuses = takes.is_feed.faultless found refuses.0
    feed_not_refused report one takes because.Differential other refuses =
        true≢false (sym refuses.2 ∙ ap is_differential (one_feed bytes refuses.0 one refuses.1.means takes.is_feed.means) ∙ takes.full)
    feed_not_refused report one takes (because.TooManyCalls calls) other refuses =
        one_count (schedule_at setting (moment ∷ moments_of arrivals)) one moment takes.text report calls takes.siri
        (subst (λ (f : Feed). HasTooMany (schedule_at setting (moment ∷ moments_of arrivals)) f calls)
        (one_feed bytes refuses.0 one refuses.1.means takes.is_feed.means) refuses.3)
    feed_not_refused report one takes because.Memory other refuses = other refl

    -- a body that brings something isn't refused, but for want of memory
    pub brings_not_refused : (of : Kind) (report : Report) (given : Given) → Brings setting arrivals moment of bytes report given
        → (why : BodyRefusal) → why ≢ because.Memory → Refuses (schedule_at setting (moment ∷ moments_of arrivals)) of bytes why → ⊥
    brings_not_refused of report (journeys records) brings why other refuses =
        delivery_not_refused (journey_items.verdicts (schedule_at setting (moment ∷ moments_of arrivals))) bytes brings.1.root brings.1.all brings.1.is_tree brings.1.judged why other
        (subst (λ (k : Kind). Refuses (schedule_at setting (moment ∷ moments_of arrivals)) k bytes why) brings.0 refuses)
    brings_not_refused of report (situations all) brings why other refuses =
        delivery_not_refused (situation_items.verdicts (schedule_at setting (moment ∷ moments_of arrivals))) bytes brings.1.root brings.1.all brings.1.is_tree brings.1.judged why other
        (subst (λ (k : Kind). Refuses (schedule_at setting (moment ∷ moments_of arrivals)) k bytes why) brings.0 refuses)
    brings_not_refused of report (feed one) brings why other refuses =
        feed_not_refused report one brings.1 why other
        (subst (λ (k : Kind). Refuses (schedule_at setting (moment ∷ moments_of arrivals)) k bytes why) brings.0 refuses)

    same_journeys : (a b : Report) (records others : List Recorded) → TakesJourneys setting arrivals moment bytes a records
        → TakesJourneys setting arrivals moment bytes b others → records ≡ others
    same_journeys a b records others one other =
        one.records_are ∙ ap (λ (all : List (Result (Recorded × ℕ) Fault)). taken (map without_count all)) same ∙ sym other.records_are
      where
        same : one.all ≡ other.all
        same =
            same_ok one.all other.all
            (sym one.judged ∙ ap (journey_items.verdicts (schedule_at setting (moment ∷ moments_of arrivals))) (same_Some one.root other.root (sym one.is_tree ∙ other.is_tree)) ∙ other.judged)

    same_situations : (a b : Report) (given others : List Situation) → TakesSituations setting arrivals moment bytes a given
        → TakesSituations setting arrivals moment bytes b others → given ≡ others
    same_situations a b given others one other =
        one.given_are ∙ ap (λ (all : List (Result (Situation × ℕ) Fault)). taken (limited_verdicts (seen setting.table) all)) same ∙ sym other.given_are
      where
        same : one.all ≡ other.all
        same =
            same_ok one.all other.all
            (sym one.judged ∙ ap (situation_items.verdicts (schedule_at setting (moment ∷ moments_of arrivals))) (same_Some one.root other.root (sym one.is_tree ∙ other.is_tree)) ∙ other.judged)

    -- a body brings one thing
    pub brings_one : (of : Kind) (a b : Report) (given other : Given) → Brings setting arrivals moment of bytes a given
        → Brings setting arrivals moment of bytes b other → given ≡ other
    brings_one of a b (journeys records) (journeys others) one two = ap journeys (same_journeys a b records others one.1 two.1)
    brings_one of a b (situations all) (situations others) one two = ap situations (same_situations a b all others one.1 two.1)
    brings_one of a b (feed given) (feed other) one two = ap feed (one_feed bytes given other one.1.is_feed.means two.1.is_feed.means)
    brings_one of a b (journeys records) (situations others) one two = absurd (not_both one.0 two.0)
      where
        not_both : of ≡ kind.Estimated → of ≡ kind.Situations → ⊥
        not_both e f = cc
    brings_one of a b (journeys records) (feed other) one two = absurd (not_both one.0 two.0)
      where
        not_both : of ≡ kind.Estimated → of ≡ kind.Feed → ⊥
        not_both e f = cc
    brings_one of a b (situations all) (journeys others) one two = absurd (not_both one.0 two.0)
      where
        not_both : of ≡ kind.Situations → of ≡ kind.Estimated → ⊥
        not_both e f = cc
    brings_one of a b (situations all) (feed other) one two = absurd (not_both one.0 two.0)
      where
        not_both : of ≡ kind.Situations → of ≡ kind.Feed → ⊥
        not_both e f = cc
    brings_one of a b (feed given) (journeys others) one two = absurd (not_both one.0 two.0)
      where
        not_both : of ≡ kind.Feed → of ≡ kind.Estimated → ⊥
        not_both e f = cc
    brings_one of a b (feed given) (situations others) one two = absurd (not_both one.0 two.0)
      where
        not_both : of ≡ kind.Feed → of ≡ kind.Situations → ⊥
        not_both e f = cc

  -- ---- several bodies

  -- they give the same each time
  pub replays_one : (setting : Setting) (before : List Arrival) (bodies : List KeptBody) (now other : List Arrival)
      → Replays setting before bodies now → Replays setting before bodies other → now ≡ other
  replays_one setting before [] now other one two = one ∙ sym two
  replays_one setting before (first ∷ rest) now other one two =
      replays_one setting (record { moment = first.moment; gives = one.1 } ∷ before) rest now other one.3
      (subst (λ (g : Given). Replays setting (record { moment = first.moment; gives = g } ∷ before) rest other)
      (sym (brings_one setting before first.moment first.body first.kind one.0 two.0 one.1 two.1 one.2 two.2)) two.3)

-- those behind them go on from there
pub replays_joined : (setting : Setting) (before : List Arrival) (bodies more : List KeptBody) (between now : List Arrival)
    → Replays setting before bodies between → Replays setting between more now → Replays setting before (bodies ++ more) now
replays_joined setting before [] more between now one two = subst (λ (arrivals : List Arrival). Replays setting arrivals more now) one two
replays_joined setting before (first ∷ rest) more between now one two =
    (one.0, one.1, one.2, replays_joined setting (record { moment = first.moment; gives = one.1 } ∷ before) rest more between now one.3 two)

-- and both parts of a list are taken where it is
pub replays_parts : (setting : Setting) (before : List Arrival) (bodies more : List KeptBody) (now : List Arrival)
    → Replays setting before (bodies ++ more) now
    → (between : List Arrival) × Replays setting before bodies between × Replays setting between more now
replays_parts setting before [] more now all = (before, refl, all)
replays_parts setting before (first ∷ rest) more now all =
    let parts = replays_parts setting (record { moment = first.moment; gives = all.1 } ∷ before) rest more now all.3 in
    (parts.0, (all.0, all.1, all.2, parts.1), parts.2)

module _ (one_feed : (bytes : List ℕ) (one other : Feed) → MeansFeed bytes one → MeansFeed bytes other → one ≡ other) where
  -- where all can be taken none is refused
  pub never_refused : (setting : Setting) (bodies : List KeptBody) (n : ℕ) → CanReplay setting bodies → IsRefusedAt setting bodies n → ⊥
  never_refused setting bodies n can at =
      let all : Replays setting [] (at.before ++ at.first ∷ at.rest) can.0 = subst (λ (b : List KeptBody). Replays setting [] b can.0) at.joined can.1 in
      let parts = replays_parts setting [] at.before (at.first ∷ at.rest) can.0 all in
      let same : parts.0 ≡ at.arrivals = replays_one one_feed setting [] at.before parts.0 at.arrivals parts.1 at.replays in
      let next : Replays setting at.arrivals (at.first ∷ at.rest) can.0 = subst (λ (a : List Arrival). Replays setting a (at.first ∷ at.rest) can.0) same parts.2 in
      brings_not_refused one_feed setting at.arrivals at.first.moment at.first.body at.first.kind next.0 next.1 next.2 at.refused.0 at.refused.1 at.refused.2
