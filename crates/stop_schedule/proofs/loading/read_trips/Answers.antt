use Rattle.std.proofs.Common.{map, slice_get, refl, ap}
use Rattle.std.proofs.lemmas.Option.{IfSome_then}
use Rattle.stop_schedule.proofs.loading.read_trips.Goals as goal

pub returns-clause-exact : goal.returns-clause-exact
returns-clause-exact g c =
    IfSome_then (g.F.Files.told c.args.files.now) c.in_default.ensures.exact
    (λ told reads.
    let held = reads (
      refl,
      record {
        ids = c.new-2.ensures.empty;
        routes_are = ap (map (slice_get c.args.routes.now)) c.new-3.ensures.items;
        services_are = ap (map (slice_get c.new.result)) c.new-4.ensures.items;
      },
    ) in
    let same = held.1.0 in
    (held.0, rw (← same) held.1.1))
