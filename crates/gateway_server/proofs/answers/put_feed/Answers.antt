-- The head, and then the feed.
use Rattle.std.proofs.Common.{◌∙◌, refl}
use Rattle.gateway_core.specs.Standing.{served}
use Rattle.http_talk.specs.declared.answer.Answer.TheVariants as answer
use Rattle.gateway_server.proofs.PutLemmas.{puts_both, puts_head}
use Rattle.gateway_server.proofs.answers.put_feed.Goals as goal

pub returns-in-Err-clause-front : goal.returns-in-Err-clause-front
returns-in-Err-clause-front g c = λ arrivals stands.
    puts_head _ (g.S.Sink.told c.args.sink.now) (g.S.Sink.told c.put_all.new.sink) answer.Feed c.as_slice.result.now (served c.args.moment c.args.gate.now) c.feed_len.result
    (c.as_slice.ensures ∙ c.answer_head-head.ensures) (c.feed_len.ensures.value arrivals stands) (c.in-Err.ensures.counts.cause refl) c.in-Err.ensures.front

pub returns-clause-front : goal.returns-clause-front
returns-clause-front g c = λ arrivals stands.
    puts_both (g.S.Sink.faults c.args.sink.now) (g.S.Sink.faults c.put_all.new.sink) (g.S.Sink.faults c.write_feed-done.new.sink)
    (g.S.Sink.told c.args.sink.now) (g.S.Sink.told c.put_all.new.sink) (g.S.Sink.told c.write_feed-done.new.sink)
    answer.Feed c.as_slice.result.now (served c.args.moment c.args.gate.now) c.feed_len.result (c.as_slice.ensures ∙ c.answer_head-head.ensures)
    (c.feed_len.ensures.value arrivals stands) c.in-Ok.ensures.all c.put_all.ensures.counts.never_falls c.write_feed-done.ensures.front
