use Rattle.std.proofs.Common.{◌∙◌, arith, refl, sym}
use Rattle.timetable.specs.Seen.{seen}
use Rattle.journey_model.specs.Dated.{run_of}
use Rattle.journey_model.specs.Updates.{position_of}
use Rattle.propagation.proofs.PlaceLemmas.{all-placed, placed_none, placed_more, placed_all-fault, is_at, is_fault, is_sized}
use Rattle.propagation.proofs.placing.placed_all.Goals as goal

pub loop-number-init : goal.loop-number-init
loop-number-init c =
    rw c.in_ok-all.ensures (placed_none (run_of (seen c.args.table.now) c.args.dated.now) c.args.updates.now)

pub says_size-bytes-requires : goal.says_size-bytes-requires
says_size-bytes-requires c =
    let run = run_of (seen c.args.table.now) c.args.dated.now in
    let update = c.index-updates-number.result in
    let at = is_at run update (position_of run c.loop-number.number c.loop-number.after update) c.in-Ok.next
    (sym c.in-Ok.is ∙ c.match_to_stop.ensures.value) in
    rw (c.scheduled_at.ensures (seen c.args.table.now))
    (is_sized run c.loop-number.number c.loop-number.after update c.in-Ok.next at).placed

pub loop-number-preserved : goal.loop-number-preserved
loop-number-preserved c =
    let run = run_of (seen c.args.table.now) c.args.dated.now in
    let update = c.index-updates-number.result in
    let at = is_at run update (position_of run c.loop-number.number c.loop-number.after update) c.in-Ok.next
    (sym c.in-Ok.is ∙ c.match_to_stop.ensures.value) in
    let sized = is_sized run c.loop-number.number c.loop-number.after update c.in-Ok.next at in
    placed_more run c.args.updates.now c.loop-number.number c.loop-number.after c.loop-number.all c.push.new.self
    update c.in-Ok.next c.loop-number.bytes c.says_size-bytes.result
    c.loop-number.invariant c.loop-number-test.true c.index-updates-number.is
    (record {
      at = at;
      later = sized.later;
      within = c.in-Ok.ensures.within;
      size = c.says_size-bytes.ensures.value
          ∙ (rw (c.scheduled_at.ensures (seen c.args.table.now)) sized.size);
      small = c.says_size-bytes.ensures.small;
    }) c.in_ok-push.ensures.added

pub returns-in-Err : goal.returns-in-Err
returns-in-Err c =
    let run = run_of (seen c.args.table.now) c.args.dated.now in
    let update = c.index-updates-number.result in
    placed_all-fault run c.args.updates.now c.loop-number.number c.loop-number.after c.loop-number.all
    c.loop-number.bytes update c.in-Err.fault
    c.loop-number.invariant c.loop-number-test.true c.index-updates-number.is
    (is_fault run update (position_of run c.loop-number.number c.loop-number.after update) c.in-Err.fault
    (sym c.in-Err.is ∙ c.match_to_stop.ensures.value))

pub returns-in-Some : goal.returns-in-Some
returns-in-Some c =
    let run = run_of (seen c.args.table.now) c.args.dated.now in
    all-placed run c.args.updates.now c.loop-number.number c.loop-number.after c.loop-number.all c.loop-number.bytes
    c.loop-number.invariant (omega arith)
    ∙ (rw (sym c.places_fault.ensures ∙ c.in-Some.is) refl)

pub returns-in-None : goal.returns-in-None
returns-in-None c =
    let run = run_of (seen c.args.table.now) c.args.dated.now in
    all-placed run c.args.updates.now c.loop-number.number c.loop-number.after c.loop-number.all c.loop-number.bytes
    c.loop-number.invariant (omega arith)
    ∙ (rw (sym c.places_fault.ensures ∙ c.in-None.is) refl)
