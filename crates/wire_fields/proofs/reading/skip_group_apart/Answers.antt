use Rattle.std.proofs.Common.{sym, ◌∙◌}
use Rattle.std.proofs.lemmas.Result.{err_from_is_err_and}
use Rattle.wire_fields.specs.Seen.{item_of}
use Rattle.wire_fields.proofs.Broken.{stop_at_item}
use Rattle.wire_fields.proofs.Skips.{skip_none, skip_more, skip_stops, skip_blocked, item_shorter}
use Rattle.wire_fields.proofs.Fronts.{not_nil}
use Rattle.wire_fields.proofs.reading.skip_group_apart.Goals as goal

pub loop-open-init : goal.loop-open-init
loop-open-init c = rw c.with_first-open.ensures.first (skip_none c.args.number c.args.bytes.now)

pub returns-in_err-item-clause-fault : goal.returns-in_err-item-clause-fault
returns-in_err-item-clause-fault c =
    let p = err_from_is_err_and c.from_residual.result c.from_residual.ensures.1 in
    let some = not_nil c.loop-open.open (sym c.is_empty.ensures.value ∙ c.loop-open-test.true) in
    rw (p.1, p.2) (skip_stops c.args.number c.args.bytes.now c.loop-open.open c.loop-open.rest.now c.in_err-item.field-0.0 c.loop-open.invariant some (stop_at_item c.loop-open.open c.loop-open.rest.now c.in_err-item.field-0.0 c.in_err-item.ensures))

pub returns-in_err-follow-clause-fault : goal.returns-in_err-follow-clause-fault
returns-in_err-follow-clause-fault c =
    let p = err_from_is_err_and c.from_residual-in_err-follow.result c.from_residual-in_err-follow.ensures.1 in
    let some = not_nil c.loop-open.open (sym c.is_empty.ensures.value ∙ c.loop-open-test.true) in
    rw (p.1, p.2, c.in_err-follow.ensures.kind) (skip_blocked c.args.number c.args.bytes.now c.loop-open.open c.loop-open.rest.now c.in_ok-item.after.now (item_of c.in_ok-item.item) c.loop-open.invariant some c.in_ok-item.ensures c.in_err-follow.ensures.err.0)

pub loop-open-smaller : goal.loop-open-smaller
loop-open-smaller c = item_shorter c.loop-open.rest.now c.in_ok-item.after.now (item_of c.in_ok-item.item) c.in_ok-item.ensures

pub loop-open-preserved : goal.loop-open-preserved
loop-open-preserved c =
    let some = not_nil c.loop-open.open (sym c.is_empty.ensures.value ∙ c.loop-open-test.true) in
    skip_more c.args.number c.args.bytes.now c.loop-open.open c.loop-open.rest.now c.follow.new.self c.in_ok-item.after.now (item_of c.in_ok-item.item) c.loop-open.invariant some c.in_ok-item.ensures c.in_ok-follow.ensures.ok
