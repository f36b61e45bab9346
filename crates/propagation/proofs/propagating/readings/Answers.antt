use Rattle.std.proofs.Common.{◌≡◌, ◌∙◌, true, false, sym, ap, arith, drop, map, is_some, if◌then◌else◌}
use Rattle.std.specs.List.{range_with_len}
use Rattle.journey_model.specs.Dated.{run_of}
use Rattle.journey_model.specs.Propagation.{prop}
use Rattle.propagation.proofs.SpreadLemmas.{spread_none, spread_more, planned_row, scheduled_row}
use Rattle.propagation.proofs.propagating.readings.Goals as goal
use Rattle.propagation.proofs.propagating.readings.Goals.{then-is_some, else-is_some}

pub loop-position-init : goal.loop-position-init
loop-position-init c =
    λ table updates rising same. spread_none (run_of table c.args.dated.now) updates c.args.placed.now _
    c.in_ok-all.ensures rising same

pub loop-position-preserved : goal.loop-position-preserved
loop-position-preserved c = λ table updates rising same.
    let left : c.if-is_some.rest.now
    ≡ (if is_some c.first_at-said.result then drop 1 c.loop-position.rest.now else c.loop-position.rest.now) =
    elim c.if-is_some.branch [
      | then-is_some w ↦ let yes : is_some c.first_at-said.result ≡ true =
          sym c.is_some.ensures ∙ w.if-is_some.true in
          rw yes (ap (λ rest. rest.now) w.rest-is ∙ w.after_first-rest.ensures)
      | else-is_some w ↦ let none : is_some c.first_at-said.result ≡ false =
          sym c.is_some.ensures ∙ w.if-is_some.false in rw none (ap (λ rest. rest.now) w.rest-is)
    ] in
    spread_more (run_of table c.args.dated.now) updates c.loop-position.position c.loop-position.delay
    c.delay_after-delay.result c.loop-position.rest.now c.if-is_some.rest.now
    c.loop-position.all c.push.new.self c.first_at-said.result _ c.planned_times.result c.reading_at.result
    (c.loop-position.invariant table updates rising same)
    c.first_at-said.ensures
    (scheduled_row c.args.dated.now.stops.now c.loop-position.position _ c.loop-position-test.true)
    (c.planned_times.ensures.value
    ∙ planned_row c.args.dated.now.start c.args.dated.now.stops.now c.loop-position.position _ c.loop-position-test.true)
    c.reading_at.ensures c.in_ok-push.ensures.added c.delay_after-delay.ensures left

pub returns : goal.returns
returns c = λ table updates rising same.
    (c.loop-position.invariant table updates rising same).reads
    ∙ ap (λ count. map (prop (run_of table c.args.dated.now) updates) (range_with_len 0 count)) (omega arith)
