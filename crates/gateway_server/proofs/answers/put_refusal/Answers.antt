-- The answer of a refusal.
use Rattle.std.proofs.Common.{◌∙◌}
use Rattle.gateway_server.proofs.PutLemmas.{puts_refusal}
use Rattle.gateway_server.proofs.answers.put_refusal.Goals as goal

pub returns-clause-front : goal.returns-clause-front
returns-clause-front g c =
    puts_refusal _ (g.S.Sink.told c.args.sink.now) (g.S.Sink.told c.put_answer.new.sink) c.args.why c.as_slice.result.now
    (c.as_slice.ensures ∙ c.refusal_text-text.ensures) c.put_answer.ensures.front
