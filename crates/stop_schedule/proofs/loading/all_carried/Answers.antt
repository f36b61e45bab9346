use Rattle.std.proofs.Common.{◌≡◌, ◌∙◌, replicate, length, true, ap, arith}
use Rattle.stop_schedule.proofs.StartLemmas.{all-carried}
use Rattle.stop_schedule.proofs.loading.all_carried.Goals as goal

pub returns : goal.returns
returns c =
    let all : c.loop.counter ≡ length c.args.trips.now = omega arith in
    c.loop.invariant ∙ ap (λ n. replicate n true) all ∙ all-carried c.args.trips.now
