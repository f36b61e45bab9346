use Rattle.std.proofs.Common.{refl}
use Rattle.std.proofs.lemmas.Option.{IfSome_then}
use Rattle.stop_schedule.proofs.loading.read_stop_times.Goals as goal

pub returns-clause-exact : goal.returns-clause-exact
returns-clause-exact g c =
    IfSome_then (g.F.Files.told c.args.files.now) c.in_default.ensures.exact
    (λ told reads.
    let held = reads (refl, refl, c.in_ok-by_trip.ensures.holds) in
    let same_trips = held.1.0 in
    let same_stops = held.1.1 in
    (held.0, rw (← same_trips, ← same_stops) held.1.2))
