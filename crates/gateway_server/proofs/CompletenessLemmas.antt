-- What is well formed is taken, and what is asked for is shown.
use Rattle.std.proofs.Common.{◌≡◌, ◌∙◌, ◌≤◌, ◌++◌, ◌∷◌, ◌⊎◌, ℕ, ℤ, Bool, true, false, cond, List, Some, Result, Ok, Err, length, take, drop, ap, sym, subst, refl, inl, inr}
use Rattle.std.proofs.lemmas.Bool.{cases_lt, true≢false}
use Rattle.std.proofs.lemmas.List.{take_all}
use Rattle.std.proofs.lemmas.Option.{none-some, same_Some}
use Rattle.std.specs.Prelude.{filter, map, nat_le}
use Rattle.std.specs.Result.{result_ok}
use Rattle.gw_base.specs.declared.door.Entry.{Entry}
use Rattle.gw_base.specs.declared.door.Mark.{Mark}
use Rattle.gw_base.specs.declared.door.Mark.TheVariants as mark
use Rattle.gw_base.specs.declared.member.Member.{Member}
use Rattle.gw_base.specs.declared.messages.Feed.{Feed}
use Rattle.feed_reading.specs.Tables.{MeansFeed}
use Rattle.http_talk.proofs.OneRequest.{one_request}
use Rattle.http_talk.specs.Request.{Get, IsRequest, Post, Refused, headed, request_of, with_body}
use Rattle.http_talk.specs.declared.answer.Answer.TheVariants as answer
use Rattle.http_talk.specs.declared.refusal.BodyFault.{BodyFault}
use Rattle.http_talk.specs.declared.refusal.Refusal.{Refusal}
use Rattle.http_talk.specs.declared.refusal.Refusal.TheVariants as refusal
use Rattle.http_talk.specs.declared.target.Action.{Action}
use Rattle.http_talk.specs.declared.target.Action.TheVariants as action
use Rattle.http_talk.specs.declared.target.Resource.{Resource}
use Rattle.http_talk.specs.declared.target.Resource.TheVariants as resource
use Rattle.gw_base.specs.declared.kind.Kind.{Kind}
use Rattle.gw_base.specs.declared.kind.Kind.TheVariants as kind
use Rattle.journey_model.specs.FeedReadings.{is_differential}
use Rattle.journey_model.specs.Records.{Recorded}
use Rattle.journey_model.specs.Schedules.{Schedule}
use Rattle.journey_model.specs.declared.fault.Fault.{Fault}
use Rattle.journey_model.specs.declared.report.Report.{Report}
use Rattle.journey_model.specs.declared.situation.Situation.{Situation}
use Rattle.reverse_calls.specs.Siri.{HasTooMany}
use Rattle.serde_json.specs.Data.{Data}
use Rattle.siri_json.specs.Deliveries.{passed_count, tree_of, without_count}
use Rattle.siri_calls.specs.Verdicts as journey_items
use Rattle.siri_situations.specs.Situations as situation_items
use Rattle.timetable.specs.Seen.{seen}
use Rattle.gateway_core.specs.Arrivals.{Arrival, Given, admitted, admitted_situations, always, feed, firsts, is_same_journey, is_same_number, is_within, journeys, moments_of, most_journeys, most_numbers, schedule_at, situations, window_at}
use Rattle.gateway_core.specs.Standing.{IsLastSiri}
use Rattle.gateway_core.specs.Taking.{TakesFeed, TakesJourneys, TakesSituations, journeys_with_room, limited_verdicts, report_json, report_on, situations_with_room}
use Rattle.gateway_core.specs.declared.setting.Setting.{Setting}
use Rattle.gateway_server.specs.Answers.{IsAnswered, IsFeedShown, answer_of, body_refused, feed_shown, mark_of, refused, refused_with, taken, text_shown}
use Rattle.gateway_core.specs.Bodies.{Brings, RefusesDelivery, RefusesFeed}
use Rattle.gateway_core.specs.declared.take.body.BodyRefusal.{BodyRefusal}
use Rattle.gateway_core.specs.declared.take.body.BodyRefusal.TheVariants as because
use Rattle.gateway_server.specs.Bodies.{RefusesBody, fault_of}
use Rattle.gateway_server.specs.Completeness.{CompletesBy, EndsWith, IsCalm, IsSoundDelivery, IsSoundFeed, IsSoundSituations, IsUndisturbed, WantsMemory, none_aside}
use Rattle.gateway_server.specs.Log.{IsFront, IsLawfulBy, IsPosted, answered, full, lost, no_clock, no_memory, unkept}
use Rattle.gateway_server.proofs.RoomLeft.{all_fit, all_pass, alike_journeys, alike_numbers, own_journey, own_number, report_of}

-- ---- an input asks for one thing

not_refused_get : (input : List ℕ) (why : Refusal) (what : Resource) → IsRequest input (Refused why) → IsRequest input (Get what) → ⊥
not_refused_get input why what a b = not_both (one_request input (Refused why) (Get what) a b)
  where
    not_both : Refused why ≡ Get what → ⊥
    not_both e = cc

not_refused_post : (input body : List ℕ) (why : Refusal) (of : Kind) → IsRequest input (Refused why) → IsRequest input (Post of body) → ⊥
not_refused_post input body why of a b = not_both (one_request input (Refused why) (Post of body) a b)
  where
    not_both : Refused why ≡ Post of body → ⊥
    not_both e = cc

not_get_post : (input body : List ℕ) (what : Resource) (of : Kind) → IsRequest input (Get what) → IsRequest input (Post of body) → ⊥
not_get_post input body what of a b = not_both (one_request input (Get what) (Post of body) a b)
  where
    not_both : Get what ≡ Post of body → ⊥
    not_both e = cc

same_get : (input : List ℕ) (what other : Resource) → IsRequest input (Get what) → IsRequest input (Get other) → what ≡ other
same_get input what other a b = part (one_request input (Get what) (Get other) a b)
  where
    part : Get what ≡ Get other → what ≡ other
    part e = cc

same_post : (input body more : List ℕ) (of other : Kind) → IsRequest input (Post of body) → IsRequest input (Post other more) → (of ≡ other) × (body ≡ more)
same_post input body more of other a b =
    let same : Post of body ≡ Post other more = one_request input (Post of body) (Post other more) a b in
    (first same, second same)
  where
    first : Post of body ≡ Post other more → of ≡ other
    first e = cc

    second : Post of body ≡ Post other more → body ≡ more
    second e = cc

-- an input that asks to GET is not posted
not_posted : (input : List ℕ) (what : Resource) → IsRequest input (Get what) → IsPosted input → ⊥
not_posted input what asks posted =
    by
    (subst (λ (a : Action). Get what ≡ request_of a posted.1.length (drop posted.0 input)) posted.4
    (one_request input (Get what) (with_body (Ok posted.1) (drop posted.0 input)) asks (headed posted.0 (Ok posted.1) posted.3 refl)))
  where
    within : (c : Bool) → Get what ≡ cond c (Post posted.2 (take posted.1.length (drop posted.0 input))) (Refused refusal.Cut) → ⊥
    within true e = cc
    within false e = cc

    by : Get what ≡ request_of (action.Post posted.2) posted.1.length (drop posted.0 input) → ⊥
    by e = within (nat_le posted.1.length (length (drop posted.0 input))) e

-- ---- without a cause

-- a prefix is the whole
whole : (Cause : Type 0) (output bytes : List ℕ) → ¬ Cause → IsFront Cause output bytes → output ≡ bytes
whole Cause output bytes calm front =
    elim (cases_lt front.0 (length bytes)) as (λ _. output ≡ bytes) [
      | inl less ↦ absurd (calm (front.3 less))
      | inr all ↦ same_Some output (take front.0 bytes) front.2 ∙ take_all front.0 bytes all
    ]

-- a body that would be taken isn't kept, or it is full
abbrev IsLeftOut : Type 0 → (List ℕ → Bool) → List ℕ → Type 0
IsLeftOut Unkept is_full input = (of : Kind) × (body : List ℕ) × IsRequest input (Post of body) × (Unkept ⊎ (is_full body ≡ true))

-- a connection was answered at its moment, or there was no memory for what was posted, or that was left out
abbrev IsCalmEnd : Type 0 → (List ℕ → Bool) → Setting → List Arrival → Entry → ℤ → Type 0
IsCalmEnd Unkept is_full setting arrivals entry moment =
    IsAnswered setting arrivals entry.input moment entry.mark entry.output ⊎ ((IsPosted entry.input × WantsMemory entry) ⊎ IsLeftOut Unkept is_full entry.input)

undisturbed : (Cause Unkept : Type 0) (is_full : List ℕ → Bool) (setting : Setting) (arrivals : List Arrival) (entry : Entry) (moment : ℤ) → IsCalm Cause entry moment
    → IsLawfulBy Cause Unkept is_full setting arrivals entry → IsCalmEnd Unkept is_full setting arrivals entry moment
undisturbed Cause Unkept is_full setting arrivals entry moment calm (no_clock is none front) = absurd (none-some moment (sym none ∙ calm.timed))
undisturbed Cause Unkept is_full setting arrivals entry moment calm (lost at is some empty cause) = absurd (calm.calm cause)
undisturbed Cause Unkept is_full setting arrivals entry moment calm (no_memory at is some posted front) =
    inr (inl (posted, (is, whole Cause entry.output (refused_with refusal.Memory) calm.calm front)))
undisturbed Cause Unkept is_full setting arrivals entry moment calm (unkept at of body is some asks can cause front) = inr (inr (of, body, asks, inl cause))
undisturbed Cause Unkept is_full setting arrivals entry moment calm (full at of body is some asks can no_room front) = inr (inr (of, body, asks, inr no_room))
undisturbed Cause Unkept is_full setting arrivals entry moment calm (answered at bytes some says room front) =
    inl (subst (λ (output : List ℕ). IsAnswered setting arrivals entry.input moment entry.mark output) (sym (whole Cause entry.output bytes calm.calm front))
    (subst (λ (m : ℤ). IsAnswered setting arrivals entry.input m entry.mark bytes) (same_Some at moment (sym some ∙ calm.timed)) says))

-- ---- deliveries

same_ok : {A E : Type 0} (a b : A) → ◌≡◌ {A = Result A E} (Ok a) (Ok b) → a ≡ b
same_ok a b e = same_Some a b (ap result_ok e)

-- a delivery that has verdicts is not refused
not_refused : {A : Type 0} (judge : Data → Result A Member) (body : List ℕ) (root : Data) (all : A) → tree_of body ≡ Some root → judge root ≡ Ok all
    → (cause : BodyRefusal) (fault : BodyFault) → RefusesDelivery (λ root member. judge root ≡ Err member) body cause → fault_of cause ≡ Some fault → ⊥
not_refused judge body root all tree ok because.NotJson fault refuses told = none-some root (sym refuses ∙ tree)
not_refused judge body root all tree ok (because.NotDelivery member) fault refuses told =
    none-some all (ap result_ok (sym refuses.2 ∙ ap judge (same_Some refuses.0 root (sym refuses.1 ∙ tree)) ∙ ok))
not_refused judge body root all tree ok (because.Feed one) fault refuses told = refuses
not_refused judge body root all tree ok because.Differential fault refuses told = refuses
not_refused judge body root all tree ok (because.TooManyCalls calls) fault refuses told = refuses
not_refused judge body root all tree ok because.Memory fault refuses told = none-some fault told

module _ (setting : Setting) (arrivals : List Arrival) (moment : ℤ) where
  -- none of a delivery's journeys is set aside
  journeys_report : (body : List ℕ) (records others : List Recorded) (passed : ℕ) (report : Report) → IsSoundDelivery setting arrivals moment body records passed
      → TakesJourneys setting arrivals moment body report others → report ≡ none_aside (length records) passed
  journeys_report body records others passed report sound takes =
      takes.report_is
      ∙ ap (λ (all : List (Result (Recorded × ℕ) Fault)). report_on (journeys_with_room (window_at setting (moment ∷ moments_of arrivals)) (admitted setting arrivals) (map without_count all)) (passed_count all)) same
      ∙ (λ i. report_on (journeys_with_room (window_at setting (moment ∷ moments_of arrivals)) (admitted setting arrivals) (sound.faultless i)) (sym sound.passed_is i))
      ∙ ap (λ (verdicts : List (Result Recorded Fault)). report_on verdicts passed)
      (all_fit is_same_journey own_journey alike_journeys (is_within (window_at setting (moment ∷ moments_of arrivals))) most_journeys (admitted setting arrivals) records sound.room)
      ∙ report_of records passed
    where
      same : takes.all ≡ sound.all
      same =
          same_ok takes.all sound.all
          (sym takes.judged ∙ ap (journey_items.verdicts (schedule_at setting (moment ∷ moments_of arrivals))) (same_Some takes.root sound.root (sym takes.is_tree ∙ sound.is_tree)) ∙ sound.judged)

  situations_report : (body : List ℕ) (given others : List Situation) (passed : ℕ) (report : Report) → IsSoundSituations setting arrivals moment body given passed
      → TakesSituations setting arrivals moment body report others → report ≡ none_aside (length given) passed
  situations_report body given others passed report sound takes =
      takes.report_is
      ∙ ap (λ (all : List (Result (Situation × ℕ) Fault)). report_on (situations_with_room (admitted_situations arrivals) (limited_verdicts (seen setting.table) all)) (passed_count all)) same
      ∙ (λ i. report_on (situations_with_room (admitted_situations arrivals) (sound.faultless i)) (sym sound.passed_is i))
      ∙ ap (λ (verdicts : List (Result Situation Fault)). report_on verdicts passed)
      (all_fit is_same_number own_number alike_numbers always most_numbers (admitted_situations arrivals) given room)
      ∙ report_of given passed
    where
      same : takes.all ≡ sound.all
      same =
          same_ok takes.all sound.all
          (sym takes.judged ∙ ap (situation_items.verdicts (schedule_at setting (moment ∷ moments_of arrivals))) (same_Some takes.root sound.root (sym takes.is_tree ∙ sound.is_tree)) ∙ sound.judged)

      room : length (firsts is_same_number (filter always (admitted_situations arrivals) ++ given)) ≤ most_numbers
      room = subst (λ (before : List Situation). length (firsts is_same_number (before ++ given)) ≤ most_numbers) (sym (all_pass (admitted_situations arrivals))) sound.room

  -- what a body brings that is posted as journeys, and as situations
  brought_journeys : (body : List ℕ) (records : List Recorded) (passed : ℕ) (of : Kind) (report : Report) (given : Given) → of ≡ kind.Estimated
      → IsSoundDelivery setting arrivals moment body records passed → Brings setting arrivals moment of body report given
      → (mark_of given ≡ mark.Taken) × (report ≡ none_aside (length records) passed)
  brought_journeys body records passed of report (journeys others) is sound brings = (refl, journeys_report body records others passed report sound brings.1)
  brought_journeys body records passed of report (situations others) is sound brings = absurd (not_both brings.0 is)
    where
      not_both : of ≡ kind.Situations → of ≡ kind.Estimated → ⊥
      not_both e f = cc
  brought_journeys body records passed of report (feed one) is sound brings = absurd (not_both brings.0 is)
    where
      not_both : of ≡ kind.Feed → of ≡ kind.Estimated → ⊥
      not_both e f = cc

  brought_situations : (body : List ℕ) (all : List Situation) (passed : ℕ) (of : Kind) (report : Report) (given : Given) → of ≡ kind.Situations
      → IsSoundSituations setting arrivals moment body all passed → Brings setting arrivals moment of body report given
      → (mark_of given ≡ mark.Taken) × (report ≡ none_aside (length all) passed)
  brought_situations body all passed of report (journeys others) is sound brings = absurd (not_both brings.0 is)
    where
      not_both : of ≡ kind.Estimated → of ≡ kind.Situations → ⊥
      not_both e f = cc
  brought_situations body all passed of report (situations others) is sound brings = (refl, situations_report body all others passed report sound brings.1)
  brought_situations body all passed of report (feed one) is sound brings = absurd (not_both brings.0 is)
    where
      not_both : of ≡ kind.Feed → of ≡ kind.Situations → ⊥
      not_both e f = cc

  -- ---- a feed

  module _ (one_feed : (bytes : List ℕ) (one other : Feed) → MeansFeed bytes one → MeansFeed bytes other → one ≡ other) where
    feed_not_refused : (schedule : Schedule) (body : List ℕ) (one : Feed) → IsSoundFeed schedule body one
        → (cause : BodyRefusal) (fault : BodyFault) → RefusesFeed schedule body cause → fault_of cause ≡ Some fault → ⊥
    feed_not_refused schedule body one sound because.NotJson fault refuses told = refuses
    feed_not_refused schedule body one sound (because.NotDelivery member) fault refuses told = refuses
    feed_not_refused schedule body one sound (because.Feed found) fault refuses told = sound.is_feed.faultless found refuses.0
    feed_not_refused schedule body one sound because.Differential fault refuses told =
        true≢false (sym refuses.2 ∙ ap is_differential (one_feed body refuses.0 one refuses.1.means sound.is_feed.means) ∙ sound.full)
    feed_not_refused schedule body one sound (because.TooManyCalls calls) fault refuses told =
        sound.few calls (subst (λ (f : Feed). HasTooMany schedule f calls) (one_feed body refuses.0 one refuses.1.means sound.is_feed.means) refuses.3)
    feed_not_refused schedule body one sound because.Memory fault refuses told = none-some fault told

    brought_feed : (body : List ℕ) (one : Feed) (of : Kind) (report : Report) (given : Given) → of ≡ kind.Feed
        → IsSoundFeed (schedule_at setting (moment ∷ moments_of arrivals)) body one → Brings setting arrivals moment of body report given
        → TakesFeed setting arrivals moment body report one × (mark_of given ≡ mark.Fed)
    brought_feed body one of report (journeys others) is sound brings = absurd (not_both brings.0 is)
      where
        not_both : of ≡ kind.Estimated → of ≡ kind.Feed → ⊥
        not_both e f = cc
    brought_feed body one of report (situations others) is sound brings = absurd (not_both brings.0 is)
      where
        not_both : of ≡ kind.Situations → of ≡ kind.Feed → ⊥
        not_both e f = cc
    brought_feed body one of report (feed other) is sound brings = (
      subst (λ (f : Feed). TakesFeed setting arrivals moment body report f) (one_feed body other one brings.1.is_feed.means sound.is_feed.means) brings.1,
      refl,
    )

  -- ---- what is answered

  module _ (input : List ℕ) (ends : Mark) (bytes : List ℕ) where
    journeys_answered : (body : List ℕ) (records : List Recorded) (passed : ℕ) → IsRequest input (Post kind.Estimated body) → IsSoundDelivery setting arrivals moment body records passed
        → IsAnswered setting arrivals input moment ends bytes
        → (ends ≡ mark.Taken) × (bytes ≡ answer_of answer.Json (report_json (none_aside (length records) passed)))
    journeys_answered body records passed posted sound (refused why asks is are) = absurd (not_refused_post input body why kind.Estimated asks posted)
    journeys_answered body records passed posted sound (feed_shown other asks shown is are) = absurd (not_get_post input body resource.Feed kind.Estimated asks posted)
    journeys_answered body records passed posted sound (text_shown other asks shown is are) = absurd (not_get_post input body resource.Timetable kind.Estimated asks posted)
    journeys_answered body records passed posted sound (body_refused of other fault asks why is are) =
        let same : (of ≡ kind.Estimated) × (other ≡ body) = same_post input other body of kind.Estimated asks posted in
        let told : RefusesBody (schedule_at setting (moment ∷ moments_of arrivals)) kind.Estimated body fault =
        subst (λ (k : Kind). RefusesBody (schedule_at setting (moment ∷ moments_of arrivals)) k body fault) same.0
        (subst (λ (b : List ℕ). RefusesBody (schedule_at setting (moment ∷ moments_of arrivals)) of b fault) same.1 why) in
        absurd (not_refused (journey_items.verdicts (schedule_at setting (moment ∷ moments_of arrivals))) body sound.root sound.all sound.is_tree sound.judged told.0 fault told.1 told.2)
    journeys_answered body records passed posted sound (taken of other report given asks brings is are) =
        let same : (of ≡ kind.Estimated) × (other ≡ body) = same_post input other body of kind.Estimated asks posted in
        let brought : (mark_of given ≡ mark.Taken) × (report ≡ none_aside (length records) passed) =
        brought_journeys body records passed of report given same.0 sound (subst (λ (b : List ℕ). Brings setting arrivals moment of b report given) same.1 brings) in
        (is ∙ brought.0, are ∙ ap (λ (r : Report). answer_of answer.Json (report_json r)) brought.1)

    situations_answered : (body : List ℕ) (all : List Situation) (passed : ℕ) → IsRequest input (Post kind.Situations body) → IsSoundSituations setting arrivals moment body all passed
        → IsAnswered setting arrivals input moment ends bytes
        → (ends ≡ mark.Taken) × (bytes ≡ answer_of answer.Json (report_json (none_aside (length all) passed)))
    situations_answered body all passed posted sound (refused why asks is are) = absurd (not_refused_post input body why kind.Situations asks posted)
    situations_answered body all passed posted sound (feed_shown other asks shown is are) = absurd (not_get_post input body resource.Feed kind.Situations asks posted)
    situations_answered body all passed posted sound (text_shown other asks shown is are) = absurd (not_get_post input body resource.Timetable kind.Situations asks posted)
    situations_answered body all passed posted sound (body_refused of other fault asks why is are) =
        let same : (of ≡ kind.Situations) × (other ≡ body) = same_post input other body of kind.Situations asks posted in
        let told : RefusesBody (schedule_at setting (moment ∷ moments_of arrivals)) kind.Situations body fault =
        subst (λ (k : Kind). RefusesBody (schedule_at setting (moment ∷ moments_of arrivals)) k body fault) same.0
        (subst (λ (b : List ℕ). RefusesBody (schedule_at setting (moment ∷ moments_of arrivals)) of b fault) same.1 why) in
        absurd (not_refused (situation_items.verdicts (schedule_at setting (moment ∷ moments_of arrivals))) body sound.root sound.all sound.is_tree sound.judged told.0 fault told.1 told.2)
    situations_answered body all passed posted sound (taken of other report given asks brings is are) =
        let same : (of ≡ kind.Situations) × (other ≡ body) = same_post input other body of kind.Situations asks posted in
        let brought : (mark_of given ≡ mark.Taken) × (report ≡ none_aside (length all) passed) =
        brought_situations body all passed of report given same.0 sound (subst (λ (b : List ℕ). Brings setting arrivals moment of b report given) same.1 brings) in
        (is ∙ brought.0, are ∙ ap (λ (r : Report). answer_of answer.Json (report_json r)) brought.1)

    feed_answered : ((bytes : List ℕ) (one other : Feed) → MeansFeed bytes one → MeansFeed bytes other → one ≡ other)
        → (body : List ℕ) (one : Feed) → IsRequest input (Post kind.Feed body) → IsSoundFeed (schedule_at setting (moment ∷ moments_of arrivals)) body one
        → IsAnswered setting arrivals input moment ends bytes
        → (report : Report) × TakesFeed setting arrivals moment body report one × ((ends ≡ mark.Fed) × (bytes ≡ answer_of answer.Json (report_json report)))
    feed_answered one_feed body one posted sound (refused why asks is are) = absurd (not_refused_post input body why kind.Feed asks posted)
    feed_answered one_feed body one posted sound (feed_shown other asks shown is are) = absurd (not_get_post input body resource.Feed kind.Feed asks posted)
    feed_answered one_feed body one posted sound (text_shown other asks shown is are) = absurd (not_get_post input body resource.Timetable kind.Feed asks posted)
    feed_answered one_feed body one posted sound (body_refused of other fault asks why is are) =
        let same : (of ≡ kind.Feed) × (other ≡ body) = same_post input other body of kind.Feed asks posted in
        let told : RefusesBody (schedule_at setting (moment ∷ moments_of arrivals)) kind.Feed body fault =
        subst (λ (k : Kind). RefusesBody (schedule_at setting (moment ∷ moments_of arrivals)) k body fault) same.0
        (subst (λ (b : List ℕ). RefusesBody (schedule_at setting (moment ∷ moments_of arrivals)) of b fault) same.1 why) in
        absurd (feed_not_refused one_feed (schedule_at setting (moment ∷ moments_of arrivals)) body one sound told.0 fault told.1 told.2)
    feed_answered one_feed body one posted sound (taken of other report given asks brings is are) =
        let same : (of ≡ kind.Feed) × (other ≡ body) = same_post input other body of kind.Feed asks posted in
        let brought : TakesFeed setting arrivals moment body report one × (mark_of given ≡ mark.Fed) =
        brought_feed one_feed body one of report given same.0 sound (subst (λ (b : List ℕ). Brings setting arrivals moment of b report given) same.1 brings) in
        (report, brought.0, (is ∙ brought.1, are))

    feed_is_shown : IsRequest input (Get resource.Feed) → IsAnswered setting arrivals input moment ends bytes
        → (body : List ℕ) × IsFeedShown setting moment arrivals body × ((ends ≡ mark.Shown) × (bytes ≡ answer_of answer.Feed body))
    feed_is_shown asked (refused why asks is are) = absurd (not_refused_get input why resource.Feed asks asked)
    feed_is_shown asked (feed_shown body asks shown is are) = (body, shown, (is, are))
    feed_is_shown asked (text_shown body asks shown is are) = absurd (not_both (same_get input resource.Timetable resource.Feed asks asked))
      where
        not_both : resource.Timetable ≡ resource.Feed → ⊥
        not_both e = cc
    feed_is_shown asked (body_refused of body fault asks why is are) = absurd (not_get_post input body resource.Feed of asked asks)
    feed_is_shown asked (taken of body report given asks brings is are) = absurd (not_get_post input body resource.Feed of asked asks)

    text_is_shown : IsRequest input (Get resource.Timetable) → IsAnswered setting arrivals input moment ends bytes
        → (body : List ℕ) × IsLastSiri setting arrivals body × ((ends ≡ mark.Shown) × (bytes ≡ answer_of answer.Json body))
    text_is_shown asked (refused why asks is are) = absurd (not_refused_get input why resource.Timetable asks asked)
    text_is_shown asked (feed_shown body asks shown is are) = absurd (not_both (same_get input resource.Feed resource.Timetable asks asked))
      where
        not_both : resource.Feed ≡ resource.Timetable → ⊥
        not_both e = cc
    text_is_shown asked (text_shown body asks shown is are) = (body, shown, (is, are))
    text_is_shown asked (body_refused of body fault asks why is are) = absurd (not_get_post input body resource.Timetable of asked asks)
    text_is_shown asked (taken of body report given asks brings is are) = absurd (not_get_post input body resource.Timetable of asked asks)

-- ---- the law, for any cause

module _ (Cause Unkept : Type 0) (is_full : List ℕ → Bool) (setting : Setting) (arrivals : List Arrival) (entry : Entry) (lawful : IsLawfulBy Cause Unkept is_full setting arrivals entry) where
  -- what was answered has this, or there was no memory for what was posted
  or_memory : (Has : Type 0) (moment : ℤ) (of : Kind) (body : List ℕ) → IsUndisturbed Cause Unkept is_full entry moment body → IsRequest entry.input (Post of body)
      → (IsAnswered setting arrivals entry.input moment entry.mark entry.output → Has) → Has ⊎ WantsMemory entry
  or_memory Has moment of body quiet posted has = by (undisturbed Cause Unkept is_full setting arrivals entry moment quiet.calm lawful)
    where
      by : IsCalmEnd Unkept is_full setting arrivals entry moment → Has ⊎ WantsMemory entry
      by (inl says) = inl (has says)
      by (inr (inl wants)) = inr wants.1
      by (inr (inr (other, more, asks, inl cause))) = absurd (quiet.keeps cause)
      by (inr (inr (other, more, asks, inr no_room))) =
          absurd (true≢false (sym no_room ∙ ap is_full (same_post entry.input more body other of asks posted).1 ∙ quiet.fits))

  -- what is got has it
  got : (Has : Type 0) (moment : ℤ) (what : Resource) → IsCalm Cause entry moment → IsRequest entry.input (Get what)
      → (IsAnswered setting arrivals entry.input moment entry.mark entry.output → Has) → Has
  got Has moment what calm asks has = by (undisturbed Cause Unkept is_full setting arrivals entry moment calm lawful)
    where
      by : IsCalmEnd Unkept is_full setting arrivals entry moment → Has
      by (inl says) = has says
      by (inr (inl wants)) = absurd (not_posted entry.input what asks wants.0)
      by (inr (inr (of, body, posts, why))) = absurd (not_get_post entry.input body what of asks posts)

  pub completes : ((bytes : List ℕ) (one other : Feed) → MeansFeed bytes one → MeansFeed bytes other → one ≡ other) → CompletesBy Cause Unkept is_full setting arrivals entry
  completes one_feed = record {
    journeys = λ moment body records passed quiet posted sound.
        or_memory (EndsWith entry mark.Taken (answer_of answer.Json (report_json (none_aside (length records) passed)))) moment kind.Estimated body quiet posted
        (journeys_answered setting arrivals moment entry.input entry.mark entry.output body records passed posted sound);
    situations = λ moment body given passed quiet posted sound.
        or_memory (EndsWith entry mark.Taken (answer_of answer.Json (report_json (none_aside (length given) passed)))) moment kind.Situations body quiet posted
        (situations_answered setting arrivals moment entry.input entry.mark entry.output body given passed posted sound);
    feed = λ moment body one quiet posted sound.
        or_memory ((report : Report) × TakesFeed setting arrivals moment body report one × EndsWith entry mark.Fed (answer_of answer.Json (report_json report))) moment kind.Feed body quiet posted
        (feed_answered setting arrivals moment entry.input entry.mark entry.output one_feed body one posted sound);
    feed_shown = λ moment calm asks.
        got ((body : List ℕ) × IsFeedShown setting moment arrivals body × EndsWith entry mark.Shown (answer_of answer.Feed body)) moment resource.Feed calm asks
        (feed_is_shown setting arrivals moment entry.input entry.mark entry.output asks);
    text_shown = λ moment calm asks.
        got ((body : List ℕ) × IsLastSiri setting arrivals body × EndsWith entry mark.Shown (answer_of answer.Json body)) moment resource.Timetable calm asks
        (text_is_shown setting arrivals moment entry.input entry.mark entry.output asks);
  }
