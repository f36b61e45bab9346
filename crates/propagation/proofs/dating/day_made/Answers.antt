use Rattle.std.proofs.Common.{◌≡◌, arith, w64, to_z, of_z}
use Rattle.std.proofs.lemmas.Int.{ints, to_z-of_z}
use Rattle.service_day.specs.Starts.{local_day}
use Rattle.propagation.proofs.DayLemmas.{local_day_late}
use Rattle.propagation.proofs.dating.day_made.Goals as goal

pub running_day-requires-clause-late : goal.running_day-requires-clause-late
running_day-requires-clause-late c =
    let secs : to_z w64 (of_z w64 c.secs.result) ≡ c.secs.result = to_z-of_z w64 c.secs.result (omega (arith, ints)) in
    let day : c.in-Ok.day ≡ local_day c.args.context.now.zone (to_z w64 (of_z w64 c.secs.result)) =
    cc (c.in-Ok.ensures) in
    rw (day, secs) (local_day_late c.args.context.now.zone c.secs.result c.secs.ensures.range)
