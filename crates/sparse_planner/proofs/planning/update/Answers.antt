use Rattle.std.proofs.Common.{◌≡◌, ◌+ℤ◌, ◌-ℤ◌, ℤ, pos, true, ap, arith, subst, to_z, of_z, w64}
use Rattle.std.proofs.lemmas.Bool.{and_parts}
use Rattle.std.proofs.lemmas.Int.{ints}
use Rattle.timetable.specs.Planned.{planned}
use Rattle.journey_model.specs.Times.{is_delay}
use Rattle.journey_model.proofs.Delays.{delay-range}
use Rattle.sparse_planner.proofs.planning.update.Goals as goal

pub event-requires-in-Timed : goal.event-requires-in-Timed
event-requires-in-Timed c =
    let own = planned c.args.dated.now.start c.args.row.now in
    let times = c.planned_times-planned.ensures in
    let result = c.planned_times-planned.result in
    let near = rw c.in-Timed.is at c.requires.near in
    let late = (and_parts (is_delay (c.in-Timed.arrival -ℤ own.0)) (is_delay (c.in-Timed.departure -ℤ own.1)) near).1 in
    let range = delay-range (c.in-Timed.departure -ℤ own.1) late in
    let departure : result.1 ≡ c.args.dated.now.start +ℤ pos c.args.row.now.departure = ap (λ (both : ℤ × ℤ). both.1) times.value in
    let same : c.in-Timed.departure -ℤ own.1 ≡ to_z w64 (of_z w64 c.in-Timed.departure) -ℤ to_z w64 (of_z w64 result.1) = omega (arith, ints, range, departure, times.range.1) in
    subst (λ (delay : ℤ). is_delay delay ≡ true) same late
