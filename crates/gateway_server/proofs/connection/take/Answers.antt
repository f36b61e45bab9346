-- By what was done with the body.
use Rattle.std.proofs.Common.{◌∙◌, List, subst, sym}
use Rattle.std.proofs.lemmas.Bool.{true≢false}
use Rattle.gw_base.specs.Count.{Rose}
use Rattle.gw_base.specs.declared.door.Mark.{Mark}
use Rattle.delivery_journal.specs.Kept.{KeptBody}
use Rattle.gateway_server.specs.Steps.{PutsTaken}
use Rattle.gateway_server.proofs.CrashLemmas.{failed_so, keeps_not_taken, keeps_taken, kept_not_taken, kept_taken}
use Rattle.gateway_server.proofs.TakeLemmas.{mark_is_taken, puts_not_taken, puts_taken, same_gate}
use Rattle.gateway_server.proofs.connection.take.Goals as goal

pub returns-in-Ok-clause-takes : goal.returns-in-Ok-clause-takes
returns-in-Ok-clause-takes g c = λ arrivals stands bytes posts.
    subst
    (λ (m : Mark).
    PutsTaken (Rose (g.S.Sink.faults c.args.sink.now) (g.S.Sink.faults c.put_answer.new.sink)) (Rose (g.H.HoldsGateway.faults c.args.beside.now) (g.H.HoldsGateway.faults c.take.new.beside))
    g.H.HoldsGateway.room (g.H.HoldsGateway.held c.args.host.now) arrivals c.args.moment c.args.kind bytes m
    (g.S.Sink.told c.args.sink.now) (g.S.Sink.told c.put_answer.new.sink) (g.H.HoldsGateway.held c.take.new.self))
    (sym c.taken_mark.ensures)
    (puts_taken (Rose (g.S.Sink.faults c.args.sink.now) (g.S.Sink.faults c.put_answer.new.sink)) (Rose (g.H.HoldsGateway.faults c.args.beside.now) (g.H.HoldsGateway.faults c.take.new.beside))
    g.H.HoldsGateway.room (g.H.HoldsGateway.held c.args.host.now) arrivals c.args.moment c.args.kind bytes
    (g.S.Sink.told c.args.sink.now) (g.S.Sink.told c.put_answer.new.sink) (g.H.HoldsGateway.held c.take.new.self) c.in-Ok.accepted
    (c.in-Ok.ensures.takes arrivals stands bytes posts) c.in-Ok.ensures.left c.as_slice.result.now (c.as_slice.ensures.same ∙ c.in-Ok.ensures.text) c.put_answer.ensures.front)

pub returns-in-Err-clause-takes : goal.returns-in-Err-clause-takes
returns-in-Err-clause-takes g c = λ arrivals stands bytes posts.
    puts_not_taken (Rose (g.S.Sink.faults c.args.sink.now) (g.S.Sink.faults c.turn_away.new.sink)) (Rose (g.H.HoldsGateway.faults c.args.beside.now) (g.H.HoldsGateway.faults c.take.new.beside))
    g.H.HoldsGateway.room (g.H.HoldsGateway.held c.args.host.now) arrivals c.args.moment c.args.kind bytes
    (g.S.Sink.told c.args.sink.now) (g.S.Sink.told c.turn_away.new.sink) (g.H.HoldsGateway.held c.take.new.self) c.in-Err.why c.turn_away.result c.turn_away.ensures.mark
    (c.in-Err.ensures.takes arrivals stands bytes posts) c.in-Err.ensures.left c.in-Err.ensures.counts.cause c.turn_away.ensures.puts

pub returns-in-Ok-clause-keeps : goal.returns-in-Ok-clause-keeps
returns-in-Ok-clause-keeps g c = λ bytes posts first before keeps.
    keeps_taken (λ (taken failed : List KeptBody). g.H.HoldsGateway.keeps first taken failed c.take.new.self c.take.new.beside) before (record { kind = c.args.kind; moment = c.args.moment; body = bytes }) c.args.kind c.taken_mark.result c.taken_mark.ensures
    (c.in-Ok.ensures.keeps bytes posts first before keeps)

pub returns-in-Ok-clause-unkept : goal.returns-in-Ok-clause-unkept
returns-in-Ok-clause-unkept g c = λ sound. kept_taken c.args.kind c.taken_mark.result c.taken_mark.ensures

pub returns-in-Err-clause-keeps : goal.returns-in-Err-clause-keeps
returns-in-Err-clause-keeps g c = λ bytes posts first before keeps.
    keeps_not_taken (λ (taken failed : List KeptBody). g.H.HoldsGateway.keeps first taken failed c.take.new.self c.take.new.beside) before (record { kind = c.args.kind; moment = c.args.moment; body = bytes }) c.in-Err.why c.turn_away.result c.turn_away.ensures.mark
    (c.in-Err.ensures.keeps bytes posts first before keeps)

pub returns-in-Err-clause-unkept : goal.returns-in-Err-clause-unkept
returns-in-Err-clause-unkept g c =
    kept_not_taken (g.H.HoldsGateway.held c.args.host.now) (g.H.HoldsGateway.held c.take.new.self) c.in-Err.why c.turn_away.result c.turn_away.ensures.mark c.in-Err.ensures.left

pub returns-in-Ok-clause-failed : goal.returns-in-Ok-clause-failed
returns-in-Ok-clause-failed g c = λ is. absurd (true≢false (sym c.in-Ok.ensures.left ∙ is))

pub returns-in-Err-clause-failed : goal.returns-in-Err-clause-failed
returns-in-Err-clause-failed g c =
    failed_so (g.H.HoldsGateway.held c.args.host.now) (g.H.HoldsGateway.held c.take.new.self) c.in-Err.why
    (Rose (g.H.HoldsGateway.faults c.args.beside.now) (g.H.HoldsGateway.faults c.take.new.beside)) c.requires.sound c.in-Err.ensures.left c.in-Err.ensures.counts.cause

pub returns-in-Ok-clause-unchanged : goal.returns-in-Ok-clause-unchanged
returns-in-Ok-clause-unchanged g c = λ e. absurd (true≢false (sym (mark_is_taken c.args.kind c.taken_mark.result c.taken_mark.ensures) ∙ e))

pub returns-in-Err-clause-unchanged : goal.returns-in-Err-clause-unchanged
returns-in-Err-clause-unchanged g c = λ e. same_gate (g.H.HoldsGateway.held c.args.host.now) (g.H.HoldsGateway.held c.take.new.self) c.in-Err.why c.in-Err.ensures.left
