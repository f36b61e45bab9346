-- The day's text names the day.
use Rattle.std.proofs.Common.{◌≡◌, codes, Some, refl}
use Rattle.jiff_core.specs.Calendar.{day_count, days_from_civil, days_of_months, days_of_years}
use Rattle.service_day.specs.DayTexts.{dashed_day}
use Rattle.service_day.specs.Digits.{has_form}
use Rattle.sample_counts.specs.Counts.{made_day}

pub day_reads : dashed_day (codes "2024-05-01") ≡ Some made_day
unfolding dashed_day has_form days_from_civil day_count days_of_years days_of_months
day_reads = refl
