use Rattle.std.proofs.Common.{arith}
use Rattle.std.proofs.lemmas.Int.{ints}
use Rattle.service_day.proofs.DayLemmas.{parts_of, year_high}
use Rattle.service_day.proofs.days.Day.parts.Goals as goal

pub overflow_cast-result : goal.overflow_cast-result
overflow_cast-result c =
    let p = parts_of c.args.self c.date-date.result c.date-date.ensures.range c.date-date.ensures.value in
    let high = year_high c.args.self in
    rw p.0 (omega (arith, ints))

pub returns-clause-year : goal.returns-clause-year
returns-clause-year c =
    let p = parts_of c.args.self c.date-date.result c.date-date.ensures.range c.date-date.ensures.value in
    let high = year_high c.args.self in
    rw p.0 (omega (arith, ints))

pub returns-clause-month : goal.returns-clause-month
returns-clause-month c =
    (parts_of c.args.self c.date-date.result c.date-date.ensures.range c.date-date.ensures.value).1

pub returns-clause-day : goal.returns-clause-day
returns-clause-day c =
    (parts_of c.args.self c.date-date.result c.date-date.ensures.range c.date-date.ensures.value).2
