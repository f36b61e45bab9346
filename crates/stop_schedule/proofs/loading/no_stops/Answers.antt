use Rattle.std.proofs.Common.{◌≡◌, ◌∙◌, [], replicate, length, ap, arith}
use Rattle.stop_schedule.proofs.StartLemmas.{holds-none}
use Rattle.stop_schedule.proofs.KeepingLemmas.{none-loaded}
use Rattle.stop_schedule.proofs.loading.no_stops.Goals as goal

pub returns-clause-holds : goal.returns-clause-holds
returns-clause-holds c =
    let all : c.loop.counter ≡ length c.args.trips.now = omega arith in
    holds-none c.args.trips.now c.args.stops.now _ (c.loop.invariant ∙ ap (λ n. replicate n []) all)

pub returns-clause-loaded : goal.returns-clause-loaded
returns-clause-loaded c = none-loaded (length c.args.stops.now) c.loop.counter _ c.loop.invariant
