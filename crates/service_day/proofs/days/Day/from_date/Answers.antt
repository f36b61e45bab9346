use Rattle.std.proofs.Common.{arith}
use Rattle.std.proofs.lemmas.Int.{ints}
use Rattle.jiff_core.specs.Date.{epoch_day}
use Rattle.service_day.specs.Days.{IsDay}
use Rattle.service_day.proofs.DayLemmas.{day_of_date}
use Rattle.service_day.proofs.days.Day.from_date.Goals as goal

pub invariant_of-result : goal.invariant_of-result
invariant_of-result c =
    let h : IsDay (epoch_day c.args.date) = day_of_date c.args.date c.requires in
    let e = c.to_unix_epoch_day.ensures.value in
    omega (arith, ints, h.0, h.1, e)
