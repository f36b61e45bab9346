use Rattle.std.proofs.Common.{sym, ap, ◌∙◌, rules, FitsSigned, w64, to_z-of_z}
use Rattle.service_day.specs.Utc.{moment_if}
use Rattle.service_day.proofs.utc.moment_at.Goals as goal

pub returns-clause-value : goal.returns-clause-value
returns-clause-value c =
    let shown = sym c.is_clock.ensures.value ∙ c.if-not-is_clock.false in
    let fits : FitsSigned w64 c.seconds_at.result = search rules in
    let made = simp to_z-of_z at c.moment_if.ensures.value in
    rw shown (made ∙ ap moment_if c.seconds_at.ensures)
