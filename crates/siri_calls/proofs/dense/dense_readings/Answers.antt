-- One position more, with its call or without.
use Rattle.std.proofs.Common.{◌≡◌, ◌∙◌, ◌+◌, ◌<◌, ◌∷◌, map, drop, length, ap, arith}
use Rattle.siri_calls.specs.Judged as spec
use Rattle.siri_calls.specs.MatchedCalls.{placed_call}
use Rattle.journey_model.specs.TripRuns.{run_over}
use Rattle.siri_calls.proofs.DenseLemmas.{one-call, one-none, rise-after, rise-on}
use Rattle.siri_calls.proofs.dense.dense_readings.Goals as goal
use Rattle.siri_calls.proofs.dense.dense_readings.Goals.{in-Some, in-None}

pub loop-position-preserved : goal.loop-position-preserved
loop-position-preserved c =
    let run = run_over c.args.run.now in
    let position = c.loop-position.position in
    let stops = length c.args.run.now.dated.stops.now in
    let less : position < stops = omega arith in
    let list = map placed_call (drop c.loop-position.next c.args.placed.now) in
    let all = spec.all_dense run (map placed_call c.args.placed.now) in
    elim c.match-call_at.branch [
      | in-Some w ↦
          let others = map placed_call (drop (c.loop-position.next + 1) c.args.placed.now) in
          let one = placed_call w.in-Some.one.now in
          let is : list ≡ one ∷ others = ap (map placed_call) w.in-Some.ensures.first in
          rw w.next-is (record {
            whole = one-call run all c.loop-position.readings c.push.new.self list others one position stops c.match-call_at.reading is w.in-Some.ensures.here less c.in_ok-push.ensures.added (w.reading-is ∙ w.call_reading-reading.ensures) c.loop-position.invariant.whole;
            rising = rise-after position list others one is w.in-Some.ensures.here c.loop-position.invariant.rising;
          })
      | in-None w ↦
          rw w.next-is (record {
            whole = one-none run all c.loop-position.readings c.push.new.self list position stops c.match-call_at.reading w.in-None.ensures.none less c.in_ok-push.ensures.added w.reading-is c.loop-position.invariant.whole;
            rising = rise-on position list c.loop-position.invariant.rising w.in-None.ensures.none;
          })
    ]
