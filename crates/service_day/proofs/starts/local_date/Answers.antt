use Rattle.std.proofs.Common.{◌≡◌, ◌∙◌, ap, arith, pos, ◌+ℤ◌, ◌*ℤ◌, FitsSigned, w64, to_z-of_z}
use Rattle.jiff_core.specs.Date.{epoch_day}
use Rattle.jiff_core.specs.DateTime.{civil_nanos}
use Rattle.jiff_core.specs.Timestamp.{nanos_of_seconds}
use Rattle.jiff_core.proofs.SignedLemmas.{signed_arith, int_div_euclid-parts}
use Rattle.service_day.specs.Days.{IsDay}
use Rattle.service_day.specs.Starts.{local_day}
use Rattle.service_day.specs.Zones.{offset_at}
use Rattle.service_day.proofs.StartLemmas.{day_of_seconds, offset_at_in, year_of_day}
use Rattle.service_day.proofs.starts.local_date.Goals as goal

-- what the clock shows, in whole seconds
shown_is : (c : goal.After-to_plain) → civil_nanos c.to_datetime-shown.result ≡ (c.args.secs +ℤ offset_at c.args.zone.now (nanos_of_seconds c.args.secs)) *ℤ pos 1_000_000_000
shown_is c =
    let fits : FitsSigned w64 c.args.secs = c.ranges.secs in
    let nanos : c.in-Ok.instant.nanosecond ≡ nanos_of_seconds c.args.secs = simp to_z-of_z at c.in-Ok.ensures.value in
    let there = rw (nanos, c.time_zone.ensures.instants (nanos_of_seconds c.args.secs)) at c.to_datetime-shown.ensures in
    there ∙ omega (arith, signed_arith)

day_is : (c : goal.After-to_plain) → epoch_day c.to_plain.result ≡ local_day c.args.zone.now c.args.secs
unfolding local_day
day_is c = ap epoch_day (c.to_plain.ensures ∙ c.date.ensures) ∙ day_of_seconds c.to_datetime-shown.result _ (shown_is c)

pub returns-clause-day : goal.returns-clause-day
returns-clause-day c = day_is c

pub returns-clause-year : goal.returns-clause-year
unfolding local_day
returns-clause-year c =
    let x = c.args.secs +ℤ offset_at c.args.zone.now (nanos_of_seconds c.args.secs) in
    let q = int_div_euclid-parts x 86400 (omega arith) in
    let h = offset_at_in c.args.zone.now (nanos_of_seconds c.args.secs) in
    let day : IsDay (epoch_day c.to_plain.result) = rw (day_is c) (omega (arith, signed_arith, q.0, q.1, h.0, h.1)) in
    year_of_day c.to_plain.result day
