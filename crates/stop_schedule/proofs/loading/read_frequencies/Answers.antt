use Rattle.std.proofs.Common.{refl}
use Rattle.std.proofs.lemmas.Option.{IfSome_then}
use Rattle.stop_schedule.proofs.loading.read_frequencies.Goals as goal

pub returns-clause-exact : goal.returns-clause-exact
returns-clause-exact g c =
    IfSome_then (g.F.Files.told c.args.files.now) c.in_default.ensures.exact
    (λ told reads.
    let held = reads (refl, c.in_ok-carried.ensures) in
    let same = held.1.1.0 in
    (held.0, rw (← same) held.1.1.1))
