-- What is answered to a connection (RFC 9112), over what arrived of those before it.
use Rattle.std.specs.Prelude.{◌≡◌, ℕ, ℤ, List, ◌∷◌, ◌++◌, length}
use Rattle.gw_base.specs.declared.kind.Kind.{Kind}
use Rattle.gw_base.specs.declared.door.Mark.{Mark}
use Rattle.gw_base.specs.declared.door.Mark.TheVariants as mark
use Rattle.http_talk.specs.Answers.{answer_head}
use Rattle.http_talk.specs.Request.{IsRequest, Get, Post, Refused}
use Rattle.http_talk.specs.Statuses.{status_of}
use Rattle.http_talk.specs.Texts.{refusal_text}
use Rattle.http_talk.specs.declared.answer.Answer.{Answer}
use Rattle.http_talk.specs.declared.answer.Answer.TheVariants as answer
use Rattle.http_talk.specs.declared.refusal.BodyFault.{BodyFault}
use Rattle.http_talk.specs.declared.refusal.Refusal.{Refusal}
use Rattle.http_talk.specs.declared.refusal.Refusal.TheVariants as refusal
use Rattle.http_talk.specs.declared.target.Resource.TheVariants as resource
use Rattle.journey_model.specs.declared.report.Report.{Report}
use Rattle.gateway_core.specs.Arrivals.{Arrival, Given, feed, journeys, moments_of, present, schedule_at, situations}
use Rattle.gateway_core.specs.Bodies.{Brings}
use Rattle.gateway_core.specs.Gives.{GivesEach}
use Rattle.gateway_core.specs.Recording.{IsRebuiltOf}
use Rattle.gateway_core.specs.Standing.{IsLastSiri}
use Rattle.gateway_core.specs.Taking.{report_json}
use Rattle.gateway_core.specs.declared.setting.Setting.{Setting}
use Rattle.gateway_server.specs.Bodies.{RefusesBody}

-- an answer: its head, and after it its body
unfoldable pub answer_of : Answer → List ℕ → List ℕ
answer_of kind body = answer_head kind (length body) ++ body

unfoldable pub refused_with : Refusal → List ℕ
refused_with why = answer_of (answer.Refused why) (refusal_text why)

-- the mark of a connection whose body was taken
abbrev pub mark_of : Given → Mark
mark_of (journeys records) = mark.Taken
mark_of (situations all) = mark.Taken
mark_of (feed one) = mark.Fed

-- a feed that is rebuilt from all that arrived; read as protobuf and propagated, it gives each journey the reading of
-- its latest record
abbrev pub IsFeedShown : Setting → ℤ → List Arrival → List ℕ → Type 0
IsFeedShown setting moment arrivals bytes =
    IsRebuiltOf setting moment arrivals bytes
    × GivesEach moment (schedule_at setting (moments_of arrivals)) (present setting arrivals) bytes

-- what a connection with this whole input is answered at a moment, and the mark that it gets: the refusal of its
-- request; the feed; the SIRI text; the refusal of its body; or the report on a body that is taken
pub data IsAnswered (setting : Setting) (arrivals : List Arrival) (input : List ℕ) (moment : ℤ) (ends : Mark)
    (bytes : List ℕ) : Type 0 where
  refused : (why : Refusal) → IsRequest input (Refused why)
      → ends ≡ mark.Refused (status_of why).code → bytes ≡ refused_with why
      → IsAnswered setting arrivals input moment ends bytes
  feed_shown : (body : List ℕ) → IsRequest input (Get resource.Feed) → IsFeedShown setting moment arrivals body
      → ends ≡ mark.Shown → bytes ≡ answer_of answer.Feed body
      → IsAnswered setting arrivals input moment ends bytes
  text_shown : (body : List ℕ) → IsRequest input (Get resource.Timetable) → IsLastSiri setting arrivals body
      → ends ≡ mark.Shown → bytes ≡ answer_of answer.Json body
      → IsAnswered setting arrivals input moment ends bytes
  body_refused : (of : Kind) (body : List ℕ) (fault : BodyFault) → IsRequest input (Post of body)
      → RefusesBody (schedule_at setting (moment ∷ moments_of arrivals)) of body fault
      → ends ≡ mark.Refused 400 → bytes ≡ refused_with (refusal.Body fault)
      → IsAnswered setting arrivals input moment ends bytes
  taken : (of : Kind) (body : List ℕ) (report : Report) (given : Given) → IsRequest input (Post of body)
      → Brings setting arrivals moment of body report given
      → ends ≡ mark_of given → bytes ≡ answer_of answer.Json (report_json report)
      → IsAnswered setting arrivals input moment ends bytes
