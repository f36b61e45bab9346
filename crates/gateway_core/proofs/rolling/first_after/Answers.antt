-- The later of the first day and that from which days are kept.
use Rattle.std.proofs.Common.{◌≡◌, ◌∙◌, ◌-ℤ◌, pos, ℤ, ℕ, Option, ap, sym, subst, arith, true, false}
use Rattle.std.proofs.lemmas.Int.{ints}
use Rattle.std.specs.Int.{int_max}
use Rattle.std.specs.Prelude.{◌+ℤ◌}
use Rattle.service_day.specs.Starts.{IsServiceDay}
use Rattle.gateway_core.specs.Arrivals.{first_after, kept_from}
use Rattle.gateway_core.proofs.FirstDayLemmas.{IsNext, next_is}
use Rattle.gateway_core.proofs.rolling.first_after.Goals as goal

pub unreachable-requires : goal.unreachable-requires
unreachable-requires c =
    let next = next_is c.first-first.result c.number.result c.number-2.result c.kept_from-kept.result c.max-next.result c.days.result c.number.ensures.value c.number-2.ensures.value c.kept_from-kept.type_inv c.kept_from-kept.ensures.end
    (omega (arith, ints)) (omega (arith, ints)) c.days.ensures.some_days c.days.ensures.few_days c.max-next.ensures.value in
    let differs : false ≡ true = c.in-None.ensures.exactly.1 next.in_days in
    cc

pub returns-clause-value : goal.returns-clause-value
returns-clause-value c =
    let next = next_is c.first-first.result c.number.result c.number-2.result c.kept_from-kept.result c.max-next.result c.days.result c.number.ensures.value c.number-2.ensures.value c.kept_from-kept.type_inv c.kept_from-kept.ensures.end
    (omega (arith, ints)) (omega (arith, ints)) c.days.ensures.some_days c.days.ensures.few_days c.max-next.ensures.value in
    let there = subst (λ (day : ℤ). IsNext c.first-first.result c.kept_from-kept.result c.days.result day) (sym c.in-Some-plus.ensures.value) next in
    there.is
    ∙ ap (λ (first : ℤ). int_max first c.kept_from-kept.result) c.first-first.ensures.value
    ∙ ap (λ (kept : ℤ). int_max c.args.window.now.first kept)
    (c.kept_from-kept.ensures.value ∙ ap (λ (days : ℕ). kept_from c.args.setting.now.zone days c.in-Some.keep c.args.moment) (c.days.ensures.value ∙ c.requires))
    ∙ sym (ap (λ (keep : Option ℕ). first_after c.args.setting.now keep c.args.moment c.args.window.now.first) c.in-Some.is)

pub returns-clause-first_in : goal.returns-clause-first_in
returns-clause-first_in c =
    let next = next_is c.first-first.result c.number.result c.number-2.result c.kept_from-kept.result c.max-next.result c.days.result c.number.ensures.value c.number-2.ensures.value c.kept_from-kept.type_inv c.kept_from-kept.ensures.end
    (omega (arith, ints)) (omega (arith, ints)) c.days.ensures.some_days c.days.ensures.few_days c.max-next.ensures.value in
    let there = subst (λ (day : ℤ). IsNext c.first-first.result c.kept_from-kept.result c.days.result day) (sym c.in-Some-plus.ensures.value) next in
    there.first_in

pub returns-clause-last_in : goal.returns-clause-last_in
returns-clause-last_in c =
    let next = next_is c.first-first.result c.number.result c.number-2.result c.kept_from-kept.result c.max-next.result c.days.result c.number.ensures.value c.number-2.ensures.value c.kept_from-kept.type_inv c.kept_from-kept.ensures.end
    (omega (arith, ints)) (omega (arith, ints)) c.days.ensures.some_days c.days.ensures.few_days c.max-next.ensures.value in
    let there = subst (λ (day : ℤ). IsNext c.first-first.result c.kept_from-kept.result c.days.result day) (sym c.in-Some-plus.ensures.value) next in
    subst (λ (days : ℕ). IsServiceDay (c.in-Some-plus.day +ℤ pos days -ℤ pos 1)) c.days.ensures.value there.last_in
