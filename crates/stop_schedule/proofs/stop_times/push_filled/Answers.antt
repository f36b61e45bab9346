use Rattle.std.proofs.Common.{◌<◌, length, None, arith}
use Rattle.stop_schedule.proofs.FillLemmas.{filled-next}
use Rattle.stop_schedule.proofs.stop_times.push_filled.Goals as goal

pub loop-place-preserved : goal.loop-place-preserved
loop-place-preserved c =
    let within : c.loop-place.place < length c.args.stops.now = omega arith in
    rw c.in_ok-push.ensures.items
    (filled-next c.args.stops.now c.loop-place.place
    (record { row = 0; sequence = 0; stop = record { 0 = 0 }; times = None }) c.loop-place.into.items _
    c.times_at-arrival.result
    within c.times_at-arrival.ensures c.loop-place.invariant)
