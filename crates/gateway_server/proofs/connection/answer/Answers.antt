-- By what the connection asks for.
use Rattle.std.proofs.Common.{◌∙◌, ℕ, List, refl, subst, sym}
use Rattle.gw_base.specs.Count.{Rose}
use Rattle.gw_base.specs.declared.door.Mark.TheVariants as mark
use Rattle.gw_base.proofs.CountLemmas.{rose-after}
use Rattle.door_talk.specs.Requests.{AsksFor, IsPosted}
use Rattle.door_talk.specs.declared.asked.Asked.TheVariants as asked
use Rattle.delivery_journal.specs.Kept.{KeptBody}
use Rattle.gateway_core.specs.Standing.{Kept}
use Rattle.gateway_server.specs.Steps.{Answers, entry_at}
use Rattle.gateway_server.proofs.CrashLemmas.{none_posted, one_posted}
use Rattle.gateway_server.proofs.EndLemmas.{answers_lost, answers_no_room, answers_refused, answers_shown, answers_taken, answers_wider, asked_of}
use Rattle.gateway_server.proofs.connection.answer.Goals as goal

pub returns-in-Get-clause-answers : goal.returns-in-Get-clause-answers
returns-in-Get-clause-answers g c = λ told fresh past stands.
    answers_wider (Rose (g.D.Sink.faults c.read_request.new.door) (g.D.Sink.faults c.show.new.sink)) (Rose (g.D.Sink.faults c.args.door.now) (g.D.Sink.faults c.show.new.sink))
    (Rose (g.H.HoldsGateway.faults c.args.beside.now) (g.H.HoldsGateway.faults c.args.beside.now)) g.H.HoldsGateway.room
    (g.H.HoldsGateway.held c.args.host.now).gate.setting past told.input c.args.moment mark.Shown (g.D.Sink.told c.show.new.sink) (g.H.HoldsGateway.held c.args.host.now)
    (rose-after (g.D.Sink.faults c.args.door.now) (g.D.Sink.faults c.read_request.new.door) (g.D.Sink.faults c.show.new.sink) c.read_request.ensures.counts)
    (answers_shown (Rose (g.D.Sink.faults c.read_request.new.door) (g.D.Sink.faults c.show.new.sink)) (Rose (g.H.HoldsGateway.faults c.args.beside.now) (g.H.HoldsGateway.faults c.args.beside.now))
    g.H.HoldsGateway.room (g.H.HoldsGateway.held c.args.host.now) past stands c.requires.sound told.input c.args.moment
    (g.D.Sink.told c.read_request.new.door) (g.D.Sink.told c.show.new.sink) (c.read_request.ensures.output ∙ fresh.unwritten) c.in-Get.what
    (asked_of (g.H.Body.TakesBody.stands c.gateway.result.now c.read_request.new.taker c.args.moment) (g.D.Sink.told c.args.door.now) (g.D.Sink.beside c.args.door.now) told c.read_request.result (asked.Get c.in-Get.what) fresh c.read_request.ensures.asks c.in-Get.is)
    (c.show.ensures.shows past.arrivals stands.stands))

pub take-requires : goal.take-requires
take-requires g c = record {
  stands = subst (λ (k : Kept). (bytes : List ℕ) × g.H.Body.TakesBody.stands k c.read_request.new.taker c.args.moment c.in-Post.kind bytes) c.gateway.ensures.lends
      (subst (IsPosted (g.H.Body.TakesBody.stands c.gateway.result.now c.read_request.new.taker c.args.moment)) c.in-Post.is c.read_request.ensures.posted);
  small = c.read_request.ensures.taken c.requires.small;
  sound = c.requires.sound;
  ready = c.requires.ready;
}

pub returns-in-Post-clause-answers : goal.returns-in-Post-clause-answers
returns-in-Post-clause-answers g c = λ told fresh past stands.
    let asks : AsksFor (g.H.Body.TakesBody.stands c.gateway.result.now c.read_request.new.taker c.args.moment) told.input (asked.Post c.in-Post.kind) =
    asked_of (g.H.Body.TakesBody.stands c.gateway.result.now c.read_request.new.taker c.args.moment) (g.D.Sink.told c.args.door.now) (g.D.Sink.beside c.args.door.now) told c.read_request.result (asked.Post c.in-Post.kind) fresh c.read_request.ensures.asks c.in-Post.is in
    answers_wider (Rose (g.D.Sink.faults c.read_request.new.door) (g.D.Sink.faults c.take.new.sink)) (Rose (g.D.Sink.faults c.args.door.now) (g.D.Sink.faults c.take.new.sink))
    (Rose (g.H.HoldsGateway.faults c.args.beside.now) (g.H.HoldsGateway.faults c.take.new.beside)) g.H.HoldsGateway.room
    (g.H.HoldsGateway.held c.args.host.now).gate.setting past told.input c.args.moment c.take.result (g.D.Sink.told c.take.new.sink) (g.H.HoldsGateway.held c.take.new.host)
    (rose-after (g.D.Sink.faults c.args.door.now) (g.D.Sink.faults c.read_request.new.door) (g.D.Sink.faults c.take.new.sink) c.read_request.ensures.counts)
    (answers_taken (Rose (g.D.Sink.faults c.read_request.new.door) (g.D.Sink.faults c.take.new.sink)) (Rose (g.H.HoldsGateway.faults c.args.beside.now) (g.H.HoldsGateway.faults c.take.new.beside))
    g.H.HoldsGateway.room (g.H.HoldsGateway.held c.args.host.now) past stands c.requires.sound told.input c.args.moment
    (g.D.Sink.told c.read_request.new.door) (g.D.Sink.told c.take.new.sink) (c.read_request.ensures.output ∙ fresh.unwritten)
    c.in-Post.kind asks.0 c.take.result (g.H.HoldsGateway.held c.take.new.host) asks.1
    (c.take.ensures.takes past.arrivals stands.stands asks.0
    (subst (λ (k : Kept). g.H.Body.TakesBody.stands k c.read_request.new.taker c.args.moment c.in-Post.kind asks.0) c.gateway.ensures.lends asks.2)))

pub returns-in-Refused-clause-answers : goal.returns-in-Refused-clause-answers
returns-in-Refused-clause-answers g c = λ told fresh past stands.
    subst (λ (code : ℕ). Answers (Rose (g.D.Sink.faults c.args.door.now) (g.D.Sink.faults c.put_refusal.new.sink)) (Rose (g.H.HoldsGateway.faults c.args.beside.now) (g.H.HoldsGateway.faults c.args.beside.now))
    g.H.HoldsGateway.room (g.H.HoldsGateway.held c.args.host.now).gate.setting past told.input c.args.moment (mark.Refused code) (g.D.Sink.told c.put_refusal.new.sink) (g.H.HoldsGateway.held c.args.host.now))
    (sym c.status.ensures.code)
    (answers_wider (Rose (g.D.Sink.faults c.read_request.new.door) (g.D.Sink.faults c.put_refusal.new.sink)) (Rose (g.D.Sink.faults c.args.door.now) (g.D.Sink.faults c.put_refusal.new.sink))
    (Rose (g.H.HoldsGateway.faults c.args.beside.now) (g.H.HoldsGateway.faults c.args.beside.now)) g.H.HoldsGateway.room
    (g.H.HoldsGateway.held c.args.host.now).gate.setting past told.input c.args.moment _ (g.D.Sink.told c.put_refusal.new.sink) (g.H.HoldsGateway.held c.args.host.now)
    (rose-after (g.D.Sink.faults c.args.door.now) (g.D.Sink.faults c.read_request.new.door) (g.D.Sink.faults c.put_refusal.new.sink) c.read_request.ensures.counts)
    (answers_refused (Rose (g.D.Sink.faults c.read_request.new.door) (g.D.Sink.faults c.put_refusal.new.sink)) (Rose (g.H.HoldsGateway.faults c.args.beside.now) (g.H.HoldsGateway.faults c.args.beside.now))
    g.H.HoldsGateway.room (g.H.HoldsGateway.held c.args.host.now) past stands c.requires.sound told.input c.args.moment
    (g.D.Sink.told c.read_request.new.door) (g.D.Sink.told c.put_refusal.new.sink) (c.read_request.ensures.output ∙ fresh.unwritten) c.in-Refused.why
    (asked_of (g.H.Body.TakesBody.stands c.gateway.result.now c.read_request.new.taker c.args.moment) (g.D.Sink.told c.args.door.now) (g.D.Sink.beside c.args.door.now) told c.read_request.result (asked.Refused c.in-Refused.why) fresh c.read_request.ensures.asks c.in-Refused.is)
    c.put_refusal.ensures.front))

pub returns-in-NoRoom-clause-answers : goal.returns-in-NoRoom-clause-answers
returns-in-NoRoom-clause-answers g c = λ told fresh past stands.
    answers_wider (Rose (g.D.Sink.faults c.read_request.new.door) (g.D.Sink.faults c.put_refusal-in-NoRoom.new.sink)) (Rose (g.D.Sink.faults c.args.door.now) (g.D.Sink.faults c.put_refusal-in-NoRoom.new.sink))
    (Rose (g.H.HoldsGateway.faults c.args.beside.now) (g.H.HoldsGateway.faults c.args.beside.now)) g.H.HoldsGateway.room
    (g.H.HoldsGateway.held c.args.host.now).gate.setting past told.input c.args.moment mark.Memory (g.D.Sink.told c.put_refusal-in-NoRoom.new.sink) (g.H.HoldsGateway.held c.args.host.now)
    (rose-after (g.D.Sink.faults c.args.door.now) (g.D.Sink.faults c.read_request.new.door) (g.D.Sink.faults c.put_refusal-in-NoRoom.new.sink) c.read_request.ensures.counts)
    (answers_no_room (Rose (g.D.Sink.faults c.read_request.new.door) (g.D.Sink.faults c.put_refusal-in-NoRoom.new.sink)) (Rose (g.H.HoldsGateway.faults c.args.beside.now) (g.H.HoldsGateway.faults c.args.beside.now))
    g.H.HoldsGateway.room (g.H.HoldsGateway.held c.args.host.now) past stands c.requires.sound told.input c.args.moment
    (g.D.Sink.told c.read_request.new.door) (g.D.Sink.told c.put_refusal-in-NoRoom.new.sink) (c.read_request.ensures.output ∙ fresh.unwritten)
    (asked_of (g.H.Body.TakesBody.stands c.gateway.result.now c.read_request.new.taker c.args.moment) (g.D.Sink.told c.args.door.now) (g.D.Sink.beside c.args.door.now) told c.read_request.result asked.NoRoom fresh c.read_request.ensures.asks c.in-NoRoom.is)
    c.put_refusal-in-NoRoom.ensures.front)

pub returns-in-Lost-clause-answers : goal.returns-in-Lost-clause-answers
returns-in-Lost-clause-answers g c = λ told fresh past stands.
    answers_lost (Rose (g.D.Sink.faults c.args.door.now) (g.D.Sink.faults c.read_request.new.door)) (Rose (g.H.HoldsGateway.faults c.args.beside.now) (g.H.HoldsGateway.faults c.args.beside.now))
    g.H.HoldsGateway.room (g.H.HoldsGateway.held c.args.host.now) past stands c.requires.sound told.input c.args.moment
    (g.D.Sink.told c.args.door.now) (g.D.Sink.told c.read_request.new.door) fresh.unwritten
    (c.read_request.ensures.output ∙ fresh.unwritten) (c.read_request.ensures.lost c.in-Lost.is)

pub returns-in-Get-clause-keeps : goal.returns-in-Get-clause-keeps
returns-in-Get-clause-keeps g c = λ told fresh first before keeps written.
    none_posted (λ (taken failed : List KeptBody). g.H.HoldsGateway.keeps first taken failed c.args.host.now c.args.beside.now) before (g.H.HoldsGateway.held c.args.host.now).is_sound
    (entry_at told.input c.args.moment mark.Shown written) refl refl keeps

pub returns-in-Refused-clause-keeps : goal.returns-in-Refused-clause-keeps
returns-in-Refused-clause-keeps g c = λ told fresh first before keeps written.
    none_posted (λ (taken failed : List KeptBody). g.H.HoldsGateway.keeps first taken failed c.args.host.now c.args.beside.now) before (g.H.HoldsGateway.held c.args.host.now).is_sound
    (entry_at told.input c.args.moment (mark.Refused _) written) refl refl keeps

pub returns-in-NoRoom-clause-keeps : goal.returns-in-NoRoom-clause-keeps
returns-in-NoRoom-clause-keeps g c = λ told fresh first before keeps written.
    none_posted (λ (taken failed : List KeptBody). g.H.HoldsGateway.keeps first taken failed c.args.host.now c.args.beside.now) before (g.H.HoldsGateway.held c.args.host.now).is_sound
    (entry_at told.input c.args.moment mark.Memory written) refl refl keeps

pub returns-in-Lost-clause-keeps : goal.returns-in-Lost-clause-keeps
returns-in-Lost-clause-keeps g c = λ told fresh first before keeps written.
    none_posted (λ (taken failed : List KeptBody). g.H.HoldsGateway.keeps first taken failed c.args.host.now c.args.beside.now) before (g.H.HoldsGateway.held c.args.host.now).is_sound
    (entry_at told.input c.args.moment mark.Lost written) refl refl keeps

pub returns-in-Post-clause-keeps : goal.returns-in-Post-clause-keeps
returns-in-Post-clause-keeps g c = λ told fresh first before keeps written.
    let asks : AsksFor (g.H.Body.TakesBody.stands c.gateway.result.now c.read_request.new.taker c.args.moment) told.input (asked.Post c.in-Post.kind) =
    asked_of (g.H.Body.TakesBody.stands c.gateway.result.now c.read_request.new.taker c.args.moment) (g.D.Sink.told c.args.door.now) (g.D.Sink.beside c.args.door.now) told c.read_request.result (asked.Post c.in-Post.kind) fresh c.read_request.ensures.asks c.in-Post.is in
    one_posted (λ (taken failed : List KeptBody). g.H.HoldsGateway.keeps first taken failed c.take.new.host c.take.new.beside) before (g.H.HoldsGateway.held c.take.new.host).is_sound
    (entry_at told.input c.args.moment c.take.result written) (record { kind = c.in-Post.kind; moment = c.args.moment; body = asks.0 })
    (record { asks = asks.1; moment = refl }) c.take.ensures.unkept
    (c.take.ensures.keeps asks.0
    (subst (λ (k : Kept). g.H.Body.TakesBody.stands k c.read_request.new.taker c.args.moment c.in-Post.kind asks.0) c.gateway.ensures.lends asks.2) first before keeps)
