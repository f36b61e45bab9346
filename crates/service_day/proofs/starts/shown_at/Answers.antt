use Rattle.std.proofs.Common.{◌≡◌, ◌*◌, ◌∙◌, ap, arith}
use Rattle.jiff_core.specs.Date.{epoch_day}
use Rattle.jiff_core.specs.Time.{time_nanos}
use Rattle.service_day.proofs.StartLemmas.{is_shown_at, civil_nanos-whole}
use Rattle.service_day.proofs.starts.shown_at.Goals as goal

date_is : (c : goal.After-from_parts) → epoch_day c.from_parts.result.date ≡ c.args.day
date_is c = ap epoch_day (c.from_parts.ensures.date ∙ c.from_plain.ensures) ∙ c.date.ensures.value

time_is : (c : goal.After-from_parts) → time_nanos c.from_parts.result.time ≡ c.args.second * 1_000_000_000
time_is c =
    ap time_nanos (c.from_parts.ensures.time ∙ c.from_plain-time.ensures) ∙ omega (arith, c.from_second.ensures.seconds, c.from_second.ensures.subsec)

pub returns-clause-value : goal.returns-clause-value
returns-clause-value c =
    is_shown_at c.from_parts.result c.args.day c.args.second c.date.ensures.range c.requires (date_is c) (time_is c)

pub returns-clause-nanos : goal.returns-clause-nanos
returns-clause-nanos c = civil_nanos-whole c.from_parts.result c.args.day c.args.second (date_is c) (time_is c)
