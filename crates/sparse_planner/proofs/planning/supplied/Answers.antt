use Rattle.std.proofs.Common.{◌≡◌, ◌+ℤ◌, ℤ, pos, ap, ap₂, arith}
use Rattle.std.proofs.lemmas.Int.{ints}
use Rattle.journey_model.specs.declared.readings.StopReading.TheVariants.{Timed}
use Rattle.journey_model.proofs.Delays.{delay-range, delay-some}
use Rattle.sparse_planner.proofs.planning.supplied.Goals as goal

pub returns-in-Some : goal.returns-in-Some
returns-in-Some c =
    let times = c.planned_times-arrival.ensures in
    let result = c.planned_times-arrival.result in
    let row = c.args.row.now in
    let delay = c.in-Some.delay in
    let range = delay-range delay (delay-some c.args.delay delay c.in-Some.is c.requires) in
    let arrival : result.0 ≡ c.args.dated.now.start +ℤ pos row.arrival = ap (λ (both : ℤ × ℤ). both.0) times.value in
    let departure : result.1 ≡ c.args.dated.now.start +ℤ pos row.departure = ap (λ (both : ℤ × ℤ). both.1) times.value in
    rw c.in-Some.is
    (ap₂ (λ (a : ℤ) (b : ℤ). Timed a b row.stop) (omega (arith, ints, arrival, range, times.range.0)) (omega (arith, ints, departure, range, times.range.1)))
