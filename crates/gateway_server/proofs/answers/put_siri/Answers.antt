-- The head, and then the text.
use Rattle.std.proofs.Common.{◌∙◌, refl}
use Rattle.http_talk.specs.declared.answer.Answer.TheVariants as answer
use Rattle.gateway_server.proofs.PutLemmas.{puts_both, puts_head}
use Rattle.gateway_server.proofs.answers.put_siri.Goals as goal

pub returns-in-Err-clause-front : goal.returns-in-Err-clause-front
returns-in-Err-clause-front g c =
    puts_head _ (g.S.Sink.told c.args.sink.now) (g.S.Sink.told c.put_all.new.sink) answer.Json c.as_slice.result.now c.args.gate.now.text c.siri_len.result
    (c.as_slice.ensures ∙ c.answer_head-head.ensures) c.siri_len.ensures.value (c.in-Err.ensures.counts.cause refl) c.in-Err.ensures.front

pub returns-clause-front : goal.returns-clause-front
returns-clause-front g c =
    puts_both (g.S.Sink.faults c.args.sink.now) (g.S.Sink.faults c.put_all.new.sink) (g.S.Sink.faults c.write_siri-done.new.sink)
    (g.S.Sink.told c.args.sink.now) (g.S.Sink.told c.put_all.new.sink) (g.S.Sink.told c.write_siri-done.new.sink)
    answer.Json c.as_slice.result.now c.args.gate.now.text c.siri_len.result (c.as_slice.ensures ∙ c.answer_head-head.ensures)
    c.siri_len.ensures.value c.in-Ok.ensures.all c.put_all.ensures.counts.never_falls c.write_siri-done.ensures.front
