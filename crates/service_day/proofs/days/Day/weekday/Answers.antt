use Rattle.std.proofs.Common.{arith, rules, FitsSigned, w32, ◌+ℤ◌, pos, to_z-of_z}
use Rattle.std.proofs.lemmas.Int.{ints}
use Rattle.jiff_core.specs.Calendar.{weekday_number}
use Rattle.service_day.proofs.days.Day.weekday.Goals as goal

pub returns : goal.returns
unfolding weekday_number
returns c =
    let n = c.self.inside.number in
    let f : FitsSigned w32 n = omega (arith, ints, c.self.invariant) in
    let g : FitsSigned w32 (n +ℤ pos 3) = omega (arith, ints, c.self.invariant) in
    let r : FitsSigned w32 c.rem_euclid.result = search rules in
    let e = simp to_z-of_z at c.rem_euclid.ensures.value in
    rw (← c.self.view_is) (simp to_z-of_z (rw e))
