-- The head, and then the body.
use Rattle.std.proofs.Common.{◌∙◌, refl}
use Rattle.gateway_server.proofs.PutLemmas.{puts_both, puts_head}
use Rattle.gateway_server.proofs.answers.put_answer.Goals as goal

pub returns-in-Err-clause-front : goal.returns-in-Err-clause-front
returns-in-Err-clause-front g c =
    puts_head _ (g.S.Sink.told c.args.sink.now) (g.S.Sink.told c.put_all.new.sink) c.args.kind.now c.as_slice.result.now c.args.body.now _
    (c.as_slice.ensures ∙ c.answer_head-head.ensures) refl (c.in-Err.ensures.counts.cause refl) c.in-Err.ensures.front

pub returns-clause-front : goal.returns-clause-front
returns-clause-front g c =
    puts_both (g.S.Sink.faults c.args.sink.now) (g.S.Sink.faults c.put_all.new.sink) (g.S.Sink.faults c.put_all-done.new.sink)
    (g.S.Sink.told c.args.sink.now) (g.S.Sink.told c.put_all.new.sink) (g.S.Sink.told c.put_all-done.new.sink)
    c.args.kind.now c.as_slice.result.now c.args.body.now _ (c.as_slice.ensures ∙ c.answer_head-head.ensures) refl
    c.in-Ok.ensures.all c.put_all.ensures.counts.never_falls c.put_all-done.ensures.front
