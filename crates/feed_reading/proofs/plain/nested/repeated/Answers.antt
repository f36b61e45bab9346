-- Each body means one message, in order.
use Rattle.std.proofs.Common.{ℕ, List, Bor, ◌<◌, length, arith}
use Rattle.feed_reading.specs.Meaning.{Means}
use Rattle.feed_reading.proofs.Finding.{passed_on, zip_at, zip_more}
use Rattle.feed_reading.proofs.plain.nested.repeated.Goals as goal

pub returns-in_err-read : goal.returns-in_err-read
returns-in_err-read g c =
    let within : c.loop-body.body-index < length c.as_slice-body-items.result.now = omega arith in
    passed_on _ _ _ _ c.from_residual-in_err-read.ensures.1 c.in_err-read.ensures
    (λ messages meant. zip_at (λ (body : Bor (List ℕ)). body.now) (Means g.M.Message.table)
    c.as_slice-body-items.result.now messages c.loop-body.body-index _ within
    (rw (c.as_slice-body-items.ensures.same, c.in_ok-bodies.ensures) meant))

pub loop-body-preserved : goal.loop-body-preserved
loop-body-preserved g c =
    let within : c.loop-body.body-index < length c.as_slice-body-items.result.now = omega arith in
    rw c.in_ok-push.ensures.added
    (zip_more (λ (body : Bor (List ℕ)). body.now) (Means g.M.Message.table) c.as_slice-body-items.result.now
    c.loop-body.messages c.loop-body.body-index _ _ within c.loop-body.invariant c.in_ok-read.ensures)
