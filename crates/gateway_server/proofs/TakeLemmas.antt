-- What is answered to a posted body.
use Rattle.std.proofs.Common.{◌≡◌, ◌∷◌, ℕ, ℤ, true, List, Option, Some, None, Result, Ok, Err, ap, refl, subst, sym}
use Rattle.gw_base.specs.Told.{PutsUnless}
use Rattle.gw_base.specs.declared.door.Mark.{Mark}
use Rattle.gw_base.specs.declared.kind.Kind.{Kind}
use Rattle.gw_base.specs.declared.kind.Kind.TheVariants as kinds
use Rattle.http_talk.specs.declared.answer.Answer.TheVariants as answer
use Rattle.http_talk.specs.declared.refusal.BodyFault.{BodyFault}
use Rattle.journey_model.specs.declared.report.Report.{Report}
use Rattle.gateway_core.specs.Arrivals.{Arrival, Given, feed, journeys, moments_of, schedule_at, situations}
use Rattle.gateway_core.specs.Bodies.{Brings, Refuses, Takes}
use Rattle.gateway_core.specs.Standing.{Kept}
use Rattle.gateway_core.specs.Taking.{report_json}
use Rattle.gateway_core.specs.declared.accepted.Accepted.{Accepted}
use Rattle.gateway_core.specs.declared.setting.Setting.{Setting}
use Rattle.gateway_core.specs.declared.take.body.BodyRefusal.{BodyRefusal}
use Rattle.gateway_server.specs.Answers.{answer_of, mark_of, refused_with}
use Rattle.gateway_server.specs.Bodies.{fault_of, mark_for, refusal_for, refusal_of, refused_mark, taken_mark}
use Rattle.gateway_server.specs.Holding.{Held, IsLeft, IsUnkept, Room, TakesFirst, bare, keeps_none, unless_refused}
use Rattle.gateway_server.specs.Log.{is_taken}
use Rattle.gateway_server.specs.Steps.{PutsTaken, full, no_memory, refused, taken, unkept}
use Rattle.gateway_server.specs.declared.not_taken.NotTaken.{NotTaken}
use Rattle.gateway_server.specs.declared.not_taken.NotTaken.TheVariants as not_taken

-- the mark is that of its kind
brought_mark : (setting : Setting) (arrivals : List Arrival) (moment : ℤ) (of : Kind) (bytes : List ℕ) (report : Report) (given : Given)
    → Brings setting arrivals moment of bytes report given → taken_mark of ≡ mark_of given
brought_mark setting arrivals moment of bytes report (journeys records) brings = ap taken_mark brings.0
brought_mark setting arrivals moment of bytes report (situations all) brings = ap taken_mark brings.0
brought_mark setting arrivals moment of bytes report (feed one) brings = ap taken_mark brings.0

module _ (P U : Type 0) (room : Room) (held : Held) (arrivals : List Arrival) (moment : ℤ) (of : Kind) (bytes : List ℕ) (before now : Option (List ℕ)) (after : Held) where
  pub puts_taken : (accepted : Accepted) → TakesFirst room held arrivals moment of bytes (Ok accepted) after → after.is_sound ≡ true
      → (text : List ℕ) → text ≡ report_json accepted.report
      → PutsUnless P before now (answer_of answer.Json text) → PutsTaken P U room held arrivals moment of bytes (taken_mark of) before now after
  puts_taken accepted (fits, end, takes) sound text is puts =
      taken accepted.report takes.0 takes.1 fits (brought_mark held.gate.setting arrivals moment of bytes accepted.report takes.0 takes.1)
      (subst (λ (t : List ℕ). PutsUnless P before now (answer_of answer.Json t)) is puts) takes.2.stands end sound

  puts_fault : (why : BodyRefusal) (fault : Option BodyFault) → fault_of why ≡ fault → Refuses (schedule_at held.gate.setting (moment ∷ moments_of arrivals)) of bytes why
      → PutsUnless P before now (refused_with (refusal_of fault)) → after ≡ held → PutsTaken P U room held arrivals moment of bytes (refused_mark fault) before now after
  puts_fault why None is refuses puts same = no_memory refl puts same
  puts_fault why (Some fault) is refuses puts same = refused fault (why, refuses, is) refl puts same

  puts_not : (why : NotTaken) → TakesFirst room held arrivals moment of bytes (Err why) after → IsLeft held (Err why) after → (IsUnkept (Err why) → U)
      → PutsUnless P before now (refused_with (refusal_for why)) → PutsTaken P U room held arrivals moment of bytes (mark_for why) before now after
  puts_not (not_taken.Refused why) takes left cause puts = puts_fault why (fault_of why) refl takes puts left
  puts_not not_taken.Unkept takes left cause puts = unkept takes (cause tt) refl puts left.0 left.1
  puts_not not_taken.Full takes left cause puts = full takes.1 takes.0 refl puts left

  pub puts_not_taken : (why : NotTaken) (ends : Mark) → ends ≡ mark_for why → TakesFirst room held arrivals moment of bytes (Err why) after → IsLeft held (Err why) after
      → (IsUnkept (Err why) → U) → PutsUnless P before now (refused_with (refusal_for why)) → PutsTaken P U room held arrivals moment of bytes ends before now after
  puts_not_taken why ends is takes left cause puts =
      subst (λ (m : Mark). PutsTaken P U room held arrivals moment of bytes m before now after) (sym is) (puts_not why takes left cause puts)

-- a gateway by itself
pub takes_bare : (gate now : Kept) (arrivals : List Arrival) (moment : ℤ) (of : Kind) (bytes : List ℕ) (answer : Result Accepted BodyRefusal)
    → Takes gate arrivals moment of bytes answer now → TakesFirst keeps_none (bare gate) arrivals moment of bytes (unless_refused answer) (bare now)
takes_bare gate now arrivals moment of bytes (Ok accepted) takes = (refl, refl, takes)
takes_bare gate now arrivals moment of bytes (Err why) takes = takes

-- a gateway that didn't take a body is as before
pub same_gate : (held now : Held) (why : NotTaken) → IsLeft held (Err why) now → now.gate ≡ held.gate
same_gate held now (not_taken.Refused why) left = ap (λ (h : Held). h.gate) left
same_gate held now not_taken.Unkept left = left.0
same_gate held now not_taken.Full left = ap (λ (h : Held). h.gate) left

pub mark_is_taken : (kind : Kind) (ends : Mark) → ends ≡ taken_mark kind → is_taken ends ≡ true
mark_is_taken kinds.Estimated ends e = ap is_taken e
mark_is_taken kinds.Situations ends e = ap is_taken e
mark_is_taken kinds.Feed ends e = ap is_taken e
