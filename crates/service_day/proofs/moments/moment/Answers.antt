use Rattle.std.proofs.Common.{sym, ap, ◌∙◌, rules, FitsSigned, w64, to_z-of_z}
use Rattle.service_day.specs.Moments.{shown_part, fraction_part, instant_if}
use Rattle.service_day.proofs.MomentLemmas.{moment_of-short, moment_of-no_shown, moment_of-no_fraction, moment_of-no_offset, moment_of-all}
use Rattle.service_day.proofs.moments.moment.Goals as goal

pub returns-then-text-lt-SHOWN_LEN : goal.returns-then-text-lt-SHOWN_LEN
returns-then-text-lt-SHOWN_LEN c = sym (moment_of-short c.args.zone.now c.args.text.now c.if-text-lt-SHOWN_LEN.true)

pub returns-in_err-day : goal.returns-in_err-day
returns-in_err-day c =
    let shown = ap shown_part (sym c.split_at.ensures.front) ∙ sym c.read_shown.ensures.value ∙ c.in_err-day.was in
    rw c.from_residual.ensures (sym (moment_of-no_shown c.args.zone.now c.args.text.now shown))

pub returns-in_err-nanos : goal.returns-in_err-nanos
returns-in_err-nanos c =
    let shown = ap shown_part (sym c.split_at.ensures.front) ∙ sym c.read_shown.ensures.value ∙ c.in_ok-day.was in
    let fraction = ap fraction_part (sym c.split_at.ensures.back) ∙ sym c.read_fraction.ensures.value ∙ c.in_err-nanos.was in
    rw c.from_residual-in_err-nanos.ensures (sym (moment_of-no_fraction c.args.zone.now c.args.text.now _ shown fraction))

pub returns-in_err-offset : goal.returns-in_err-offset
returns-in_err-offset c =
    let shown = ap shown_part (sym c.split_at.ensures.front) ∙ sym c.read_shown.ensures.value ∙ c.in_ok-day.was in
    let fraction = ap fraction_part (sym c.split_at.ensures.back) ∙ sym c.read_fraction.ensures.value ∙ c.in_ok-nanos.was in
    let offset = rw c.split_at.ensures.back at (sym c.read_offset.ensures.value ∙ c.in_err-offset.was) in
    rw c.from_residual-in_err-offset.ensures (sym (moment_of-no_offset c.args.zone.now c.args.text.now _ _ shown fraction offset))

pub returns : goal.returns
returns c =
    let shown = ap shown_part (sym c.split_at.ensures.front) ∙ sym c.read_shown.ensures.value ∙ c.in_ok-day.was in
    let fraction = ap fraction_part (sym c.split_at.ensures.back) ∙ sym c.read_fraction.ensures.value ∙ c.in_ok-nanos.was in
    let offset = rw c.split_at.ensures.back at (sym c.read_offset.ensures.value ∙ c.in_ok-offset.was) in
    let fits : FitsSigned w64 c.second_at.result = search rules in
    let made = simp to_z-of_z at c.instant_if.ensures in
    made ∙ ap (λ secs. instant_if secs c.in_ok-nanos.nanos) c.second_at.ensures
    ∙ sym (moment_of-all c.args.zone.now c.args.text.now _ _ _ shown fraction offset)
