use Rattle.std.proofs.Common.{◌≡◌, sym, ◌∙◌, arith, refl, nat_le, true}
use Rattle.std.proofs.lemmas.Bool.Decides.{nat_tests}
use Rattle.service_day.specs.Moments.{shown_part}
use Rattle.service_day.proofs.DayLemmas.{day_in_years}
use Rattle.service_day.proofs.moments.read_shown.Goals as goal

pub returns-clause-value : goal.returns-clause-value
unfolding shown_part
returns-clause-value c =
    let form = sym c.has_form.ensures.value ∙ c.if-not-has_form.false in
    let low : nat_le 1970 c.four_at-year.result ≡ true = grind (arith, nat_tests) in
    let high : nat_le c.four_at-year.result 9998 ≡ true = grind (arith, nat_tests) in
    let day = sym c.from_parts.ensures ∙ c.in_ok-day.was in
    let second = sym c.second_of_day.ensures.value ∙ c.in_ok-second.was in
    rw (form, ← c.four_at-year.ensures, low, high, ← c.two_at.ensures.value, ← c.two_at-2.ensures.value, day, ← c.two_at-3.ensures.value, ← c.two_at-4.ensures.value, ← c.two_at-5.ensures.value, second) refl

pub returns-clause-day : goal.returns-clause-day
returns-clause-day c =
    day_in_years c.four_at-year.result c.two_at.result c.two_at-2.result c.in_ok-day.day (sym c.from_parts.ensures ∙ c.in_ok-day.was) c.if-year-lt1970.false c.if-year-gt9998.false
