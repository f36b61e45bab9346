-- What a GET and a POST put, and what a connection is by its end.
use Rattle.std.specs.Prelude.{◌≡◌, ℕ, ℤ, Bool, true, false, List, [], ◌∷◌, length, Option, Some}
use Rattle.gw_base.specs.Told.{PutsUnless}
use Rattle.gw_base.specs.declared.door.Entry.{Entry}
use Rattle.gw_base.specs.declared.door.Mark.{Mark}
use Rattle.gw_base.specs.declared.door.Mark.TheVariants as mark
use Rattle.http_talk.specs.declared.answer.Answer.TheVariants as answer
use Rattle.http_talk.specs.declared.refusal.BodyFault.{BodyFault}
use Rattle.http_talk.specs.declared.refusal.Refusal.TheVariants as refusal
use Rattle.http_talk.specs.declared.target.Resource.{Resource}
use Rattle.http_talk.specs.declared.target.Resource.TheVariants as resource
use Rattle.gw_base.specs.declared.kind.Kind.{Kind}
use Rattle.journey_model.specs.declared.report.Report.{Report}
use Rattle.delivery_journal.specs.Kept.{KeptBody}
use Rattle.gateway_core.specs.Arrivals.{Arrival, Given, moments_of, schedule_at}
use Rattle.gateway_core.specs.KeptFirst.{CanBeTaken}
use Rattle.gateway_core.specs.Standing.{IsLastSiri, Stands}
use Rattle.gateway_core.specs.Taking.{report_json}
use Rattle.gateway_core.specs.declared.setting.Setting.{Setting}
use Rattle.gateway_server.specs.Answers.{IsFeedShown, answer_of, mark_of, refused_with}
use Rattle.gateway_core.specs.Bodies.{Brings}
use Rattle.gateway_server.specs.Bodies.{RefusesBody}
use Rattle.gateway_server.specs.Holding.{Held, Room}
use Rattle.gateway_server.specs.Past.{IsLawfulAfter, LeavesPast, Past, StandsFor}

-- a GET puts the feed or the SIRI text
pub data PutsShown (Cause : Type 0) (setting : Setting) (arrivals : List Arrival) (moment : ℤ) (what : Resource)
    (before now : Option (List ℕ)) : Type 0 where
  feed : (body : List ℕ) → what ≡ resource.Feed → IsFeedShown setting moment arrivals body
      → PutsUnless Cause before now (answer_of answer.Feed body)
      → PutsShown Cause setting arrivals moment what before now
  text : (body : List ℕ) → what ≡ resource.Timetable → IsLastSiri setting arrivals body
      → PutsUnless Cause before now (answer_of answer.Json body)
      → PutsShown Cause setting arrivals moment what before now

-- a POST puts the report on a body that is taken, or its refusal, after which all is as before unless keeping it failed
pub data PutsTaken (Cause Unkept : Type 0) (room : Room) (held : Held) (arrivals : List Arrival) (moment : ℤ)
    (of : Kind) (body : List ℕ) (ends : Mark) (before now : Option (List ℕ)) (after : Held) : Type 0 where
  taken : (report : Report) (given : Given) → Brings held.gate.setting arrivals moment of body report given
      → room.is_full held.end (length body) ≡ false
      → ends ≡ mark_of given → PutsUnless Cause before now (answer_of answer.Json (report_json report))
      → Stands after.gate (record { moment = moment; gives = given } ∷ arrivals)
      → after.end ≡ room.end_after held.end (length body) → after.is_sound ≡ true
      → PutsTaken Cause Unkept room held arrivals moment of body ends before now after
  refused : (fault : BodyFault) → RefusesBody (schedule_at held.gate.setting
      (moment ∷ moments_of arrivals)) of body fault
      → ends ≡ mark.Refused 400 → PutsUnless Cause before now (refused_with (refusal.Body fault)) → after ≡ held
      → PutsTaken Cause Unkept room held arrivals moment of body ends before now after
  no_memory : ends ≡ mark.Memory → PutsUnless Cause before now (refused_with refusal.Memory) → after ≡ held
      → PutsTaken Cause Unkept room held arrivals moment of body ends before now after
  unkept : CanBeTaken held.gate.setting arrivals moment of body → Unkept
      → ends ≡ mark.Unkept → PutsUnless Cause before now (refused_with refusal.Journal)
      → after.gate ≡ held.gate → after.is_sound ≡ false
      → PutsTaken Cause Unkept room held arrivals moment of body ends before now after
  full : CanBeTaken held.gate.setting arrivals moment of body → room.is_full held.end (length body) ≡ true
      → ends ≡ mark.Refused 500 → PutsUnless Cause before now (refused_with refusal.JournalFull) → after ≡ held
      → PutsTaken Cause Unkept room held arrivals moment of body ends before now after

-- a body, where it is one of some
abbrev pub body_where : Bool → KeptBody → List KeptBody
body_where true one = one ∷ []
body_where false one = []

-- the entry of a connection that has a moment
abbrev pub entry_at : List ℕ → ℤ → Mark → List ℕ → Entry
entry_at input moment ends output = record { input = input; mark = ends; moment = Some moment; output = output }

-- a connection has this output by its end, and its entry is lawful
pub record Answers (Cause Unkept : Type 0) (room : Room) (setting : Setting) (past : Past) (input : List ℕ)
    (moment : ℤ) (ends : Mark) (output : Option (List ℕ)) (now : Held) : Type 0 where
  pub written : List ℕ
  pub told : output ≡ Some written
  pub lawful : IsLawfulAfter Cause Unkept room setting past (entry_at input moment ends written)
  pub arrived : Past
  pub leaves : LeavesPast room setting past (entry_at input moment ends written) arrived
  pub stands : StandsFor now arrived
