use Rattle.std.proofs.Common.{◌≡◌, ◌∙◌, ◌||◌, ◌++◌, true, not, zip, List, [], ◌∷◌, None, if◌then◌else◌, append-nil, sym, ap, subst, subst₂, IfSome}
use Rattle.std.proofs.lemmas.Bool.{and_parts, cond-false, cond-true}
use Rattle.std.proofs.lemmas.Slice.Zip.{Zip-more, either_empty_from_Zip}
use Rattle.std.specs.Iterator.Adapters.{zip_first, zip_second}
use Rattle.std.specs.Slice.Iter.{iter_rest}
use Rattle.gw_base.specs.declared.messages.StopUpdate.{StopUpdate}
use Rattle.journey_model.specs.Dated.{run_of}
use Rattle.journey_model.specs.Places.{are_placed, is_placed}
use Rattle.journey_model.specs.Readings.{are_near, is_near, is_skipped}
use Rattle.journey_model.specs.Runs.{Run}
use Rattle.journey_model.specs.Times.{is_delay}
use Rattle.journey_model.specs.declared.readings.StopReading.{StopReading}
use Rattle.timetable.specs.Planned.{planned}
use Rattle.timetable.specs.Seen.{seen}
use Rattle.timetable.specs.declared.stop_row.StopRow.{StopRow}
use Rattle.sparse_planner.specs.Shortest.{same_reading, update}
use Rattle.sparse_planner.proofs.States.{delay-is, delay-small, needs, plan-more, plan_from, updates-plan, zip-over}
use Rattle.sparse_planner.proofs.planning.stop_updates.Goals as goal
use Rattle.sparse_planner.proofs.planning.stop_updates.Goals.{then-needs_update+in_ok-update+in_ok-push, else-needs_update}

pub loop-row-preserved : goal.loop-row-preserved
loop-row-preserved c =
    let run : Run = run_of (seen c.args.table.now) c.args.dated.now in
    let row = c.in-Some.row.now in
    let reading = c.in-Some.reading.now in
    let rows = iter_rest (zip_first c.next.new.self) in
    let readings = iter_rest (zip_second c.next.new.self) in
    let delay = c.loop-row.delay in
    let updates = c.loop-row.updates in
    let whole = plan_from run None (zip c.args.dated.now.stops.now c.args.readings.now) in
    let left = Zip-more c.loop-row.row-iterator c.next.new.self _ _ c.in-Some.is c.next.ensures.steps in
    let so_far = subst₂ (λ (a : List StopRow) (b : List StopReading). updates ++ plan_from run delay (zip a b) ≡ whole) left.0 left.1 c.loop-row.invariant.so_far in
    let near = and_parts (is_near (planned run.start row) reading) (are_near run.start rows readings)
    (subst₂ (λ (a : List StopRow) (b : List StopReading). are_near run.start a b ≡ true) left.0 left.1 c.loop-row.invariant.near) in
    let placed = and_parts (is_placed run row reading) (are_placed run rows readings)
    (subst₂ (λ (a : List StopRow) (b : List StopReading). are_placed run a b ≡ true) left.0 left.1 c.loop-row.invariant.placed) in
    let handed = c.handed_on-delay.ensures in
    let next = delay-is run.start delay c.handed_on-delay.result row reading handed.absent handed.skipped handed.timed in
    let needed : c.needs_update.result ≡ needs run.start delay row reading = c.needs_update.ensures ∙ ap (λ supplied. is_skipped reading || not (same_reading reading supplied)) c.supplied.ensures in
    let pushed : c.if-needs_update.updates ≡ (if needs run.start delay row reading then updates ++ update run row reading ∷ [] else updates) =
    elim c.if-needs_update.branch [
      | then-needs_update+in_ok-update+in_ok-push w ↦
          w.updates-is ∙ w.in_ok-push.ensures.added ∙ ap (λ (one : StopUpdate). updates ++ one ∷ []) w.in_ok-update.ensures
          ∙ sym (cond-true (needs run.start delay row reading) (updates ++ update run row reading ∷ []) updates (sym needed ∙ w.if-needs_update.true))
      | else-needs_update w ↦
          w.updates-is ∙ sym (cond-false (needs run.start delay row reading) (updates ++ update run row reading ∷ []) updates (sym needed ∙ w.if-needs_update.false))
    ] in
    record {
      so_far = subst₂ (λ (a : List StopUpdate) b. a ++ plan_from run b (zip rows readings) ≡ whole) (sym pushed) (sym next)
          (plan-more run delay row reading (zip rows readings) updates whole so_far);
      near = near.1;
      placed = placed.1;
      small = subst (λ d. IfSome d (λ e. is_delay e ≡ true)) (sym next) (delay-small run.start delay row reading near.0 c.loop-row.invariant.small);
    }

pub returns : goal.returns
returns c =
    let run : Run = run_of (seen c.args.table.now) c.args.dated.now in
    let rows = iter_rest (zip_first c.loop-row.row-iterator) in
    let readings = iter_rest (zip_second c.loop-row.row-iterator) in
    let updates = c.loop-row.updates in
    let stops = zip c.args.dated.now.stops.now c.args.readings.now in
    let over = zip-over rows readings (either_empty_from_Zip c.loop-row.row-iterator c.next.new.self _ c.in-None.is c.next.ensures.steps) in
    sym (append-nil updates)
    ∙ ap (λ (left : List (StopRow × StopReading)). updates ++ plan_from run c.loop-row.delay left) (sym over)
    ∙ c.loop-row.invariant.so_far
    ∙ sym (updates-plan run stops)
