use Rattle.std.proofs.Common.{sym, ◌∙◌}
use Rattle.service_day.specs.Utc.{utc_of}
use Rattle.service_day.proofs.utc.read_utc.Goals as goal

pub returns-clause-value : goal.returns-clause-value
unfolding utc_of
returns-clause-value c =
    let form = sym c.has_form.ensures.value ∙ c.if-not-has_form.false in
    let day = sym c.from_parts.ensures ∙ c.in_ok-day.was in
    rw (← c.as_bytes-text.ensures.value, form, ← c.four_at.ensures, ← c.two_at.ensures.value, ← c.two_at-2.ensures.value, day, ← c.two_at-3.ensures.value, ← c.two_at-4.ensures.value, ← c.two_at-5.ensures.value) c.moment_at.ensures.value
