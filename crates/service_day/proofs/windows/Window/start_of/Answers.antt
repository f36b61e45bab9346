use Rattle.std.proofs.Common.{◌≡◌, ◌∙◌, ◌<ℤ◌, ◌≤ℤ◌, ◌+ℤ◌, ◌-ℤ◌, ◌<◌, get_or, unsigned_abs, Some, pos, sym, ap, length, take, arith, rules, inl, inr, FitsSigned, w32, w64, to_z-of_z}
use Rattle.std.proofs.lemmas.Int.{ints}
use Rattle.std.proofs.lemmas.List.{length-take-le, get_or-take}
use Rattle.service_day.specs.Starts.{IsDayStart}
use Rattle.service_day.specs.Windows.{DayStarts}
use Rattle.service_day.proofs.WindowLemmas.{distance_fits, place_in, start_in-none, start_in-some}
use Rattle.service_day.proofs.windows.Window.start_of.Goals as goal
use Rattle.service_day.proofs.windows.Window.start_of.Goals.{then-place-lt0-via-then-place-lt0, then-place-lt0-via-else-place-lt0+then-place-self}

pub returns-then-place-lt0-clause-value : goal.returns-then-place-lt0-clause-value
returns-then-place-lt0-clause-value c =
    let days = length-take-le c.self.inside.days c.self.inside.starts (omega (arith, c.self.invariant.0, c.self.invariant.1)) in
    let w : DayStarts = record { first = c.self.inside.first; starts = take c.self.inside.days c.self.inside.starts } in
    rw (← c.self.view_is) (elim c.then-place-lt0.branch [
      | then-place-lt0-via-then-place-lt0 v ↦ sym (start_in-none w c.args.day (inl (omega (arith, ints, v.if-place-lt0.true, c.number.ensures.value, c.number-2.ensures.value))))
      | then-place-lt0-via-else-place-lt0+then-place-self v ↦ sym (start_in-none w c.args.day (inr (rw days (omega (arith, ints, v.if-place-self.true, c.number.ensures.value, c.number-2.ensures.value, c.self.invariant.0)))))
    ])

first_low : (c : goal.After-result-1) → c.self.inside.first ≤ℤ c.args.day
first_low c = omega (arith, ints, c.if-place-lt0.false, c.number.ensures.value, c.number-2.ensures.value)

below : (c : goal.After-result-1) → c.args.day <ℤ (c.self.inside.first +ℤ pos c.self.inside.days)
below c = omega (arith, ints, c.if-place-self.false, c.number.ensures.value, c.number-2.ensures.value, c.self.invariant.0)

place : (c : goal.After-result-1) → unsigned_abs (c.args.day -ℤ c.self.inside.first) < c.self.inside.days
place c = place_in c.self.inside.first c.args.day c.self.inside.days (first_low c) (below c)

pub returns-clause-value : goal.returns-clause-value
returns-clause-value c =
    let days = length-take-le c.self.inside.days c.self.inside.starts (omega (arith, c.self.invariant.0, c.self.invariant.1)) in
    let w : DayStarts = record { first = c.self.inside.first; starts = take c.self.inside.days c.self.inside.starts } in
    let high : c.args.day <ℤ (c.self.inside.first +ℤ pos (length (take c.self.inside.days c.self.inside.starts))) = rw days (below c) in
    let fits_day : FitsSigned w32 c.number.result = search rules in
    let fits_first : FitsSigned w32 c.number-2.result = search rules in
    let fits_place : FitsSigned w32 (c.number.result -ℤ c.number-2.result) = distance_fits c.number.result c.number-2.result c.number.ensures.range c.number-2.ensures.range in
    let fits : FitsSigned w64 (get_or c.self.inside.starts (unsigned_abs (c.number.result -ℤ c.number-2.result)) (pos 0)) = search rules in
    let same : get_or c.self.inside.starts (unsigned_abs (c.number.result -ℤ c.number-2.result)) (pos 0) ≡ get_or (take c.self.inside.days c.self.inside.starts) (unsigned_abs (c.args.day -ℤ c.self.inside.first)) (pos 0)
    = rw (c.number.ensures.value, c.number-2.ensures.value) (sym (get_or-take c.self.inside.days c.self.inside.starts _ (pos 0) (place c))) in
    rw (← c.self.view_is) (ap (λ z. Some z) (simp to_z-of_z same) ∙ sym (start_in-some w c.args.day (first_low c) high))

pub returns-clause-range : goal.returns-clause-range
returns-clause-range c =
    let fits_day : FitsSigned w32 c.number.result = search rules in
    let fits_first : FitsSigned w32 c.number-2.result = search rules in
    let fits_place : FitsSigned w32 (c.number.result -ℤ c.number-2.result) = distance_fits c.number.result c.number-2.result c.number.ensures.range c.number-2.ensures.range in
    let fits : FitsSigned w64 (get_or c.self.inside.starts (unsigned_abs (c.number.result -ℤ c.number-2.result)) (pos 0)) = search rules in
    let there : IsDayStart (get_or c.self.inside.starts (unsigned_abs (c.number.result -ℤ c.number-2.result)) (pos 0)) = rw (c.number.ensures.value, c.number-2.ensures.value) (c.self.invariant.2 _ (place c)) in
    simp to_z-of_z there

pub returns-clause-moment : goal.returns-clause-moment
returns-clause-moment c =
    let there = returns-clause-range c in
    (omega (arith, ints, there.0), omega (arith, ints, there.1))
