-- Where one body is no list of fields, not all are.
use Rattle.std.proofs.Common.{ℕ, List, Bor, ◌<◌, length, arith}
use Rattle.wire_fields.specs.Grammar.{WireField, AreFields}
use Rattle.feed_reading.proofs.Finding.{passed_on, unlisted, all_at}
use Rattle.feed_reading.proofs.plain.nested.each_listed.Goals as goal

pub returns-in_err-list_fields : goal.returns-in_err-list_fields
returns-in_err-list_fields c =
    let within : c.loop-body.body-index < length c.args.bodies.now = omega arith in
    passed_on _ _ _ _ c.from_residual.ensures.1
    (unlisted _ c.in_err-list_fields.field-0.0 c.in_err-list_fields.ensures.reads)
    (λ _ listed. all_at (λ (body : Bor (List ℕ)). body.now)
    (λ (body : List ℕ). (fields : List WireField) × AreFields body fields) c.args.bodies.now
    c.loop-body.body-index _ within listed)
