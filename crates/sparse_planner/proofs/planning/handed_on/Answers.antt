use Rattle.std.proofs.Common.{◌≡◌, ◌+ℤ◌, ◌-ℤ◌, ℤ, pos, Some, ap, arith}
use Rattle.std.proofs.lemmas.Bool.{and_parts}
use Rattle.std.proofs.lemmas.Int.{ints}
use Rattle.timetable.specs.Planned.{planned}
use Rattle.journey_model.specs.Times.{is_delay}
use Rattle.journey_model.proofs.Delays.{delay-range}
use Rattle.sparse_planner.proofs.planning.handed_on.Goals as goal

pub returns-in-Timed-clause-timed : goal.returns-in-Timed-clause-timed
returns-in-Timed-clause-timed c = λ arrival departure place e.
    let own = planned c.args.dated.now.start c.args.row.now in
    let times = c.planned_times-planned.ensures in
    let result = c.planned_times-planned.result in
    let near = rw e at c.requires in
    let late = (and_parts (is_delay (arrival -ℤ own.0)) (is_delay (departure -ℤ own.1)) near).1 in
    let range = delay-range (departure -ℤ own.1) late in
    let same : c.in-Timed.departure ≡ departure = cc (e, c.in-Timed.is) in
    let planned_departure : result.1 ≡ c.args.dated.now.start +ℤ pos c.args.row.now.departure = ap (λ (both : ℤ × ℤ). both.1) times.value in
    ap Some (omega (arith, ints, range, same, planned_departure, times.range.1))
