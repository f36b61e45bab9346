-- Where one body is no text, not all are.
use Rattle.std.proofs.Common.{ℕ, List, Bor, ◌<◌, length, IsUtf8, arith}
use Rattle.feed_reading.proofs.Finding.{failed, all_at}
use Rattle.feed_reading.proofs.plain.kinds.last_text.Goals as goal

pub returns-in_err-from_utf8 : goal.returns-in_err-from_utf8
returns-in_err-from_utf8 c =
    let within : c.loop-body.body-index < length c.args.bodies.now = omega arith in
    failed _ _ c.from_residual.result c.from_residual.ensures.0
    (λ texts. c.in_err-from_utf8.ensures.cases.0
    (all_at (λ (body : Bor (List ℕ)). body.now) IsUtf8 c.args.bodies.now c.loop-body.body-index _ within texts))
