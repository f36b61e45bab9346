-- The local date of a moment is no first day of the calendar.
use Rattle.std.proofs.Common.{ℤ, pos, negsuc, ◌+ℤ◌, ◌<ℤ◌, ◌≤ℤ◌, arith}
use Rattle.std.proofs.lemmas.Int.{ints}
use Rattle.std.specs.Int.{int_div_euclid}
use Rattle.service_day.specs.Starts.{local_day}
use Rattle.gw_base.specs.Moments.{IsMoment}
use Rattle.service_day.specs.Zones.{offset_at}
use Rattle.service_day.specs.declared.zones.Rules.{Rules}
use Rattle.service_day.proofs.StartLemmas.{offset_at_in}

quotient_late : (shown : ℤ) → negsuc 93599 ≤ℤ shown → negsuc 719161 <ℤ int_div_euclid shown (pos 86400)
quotient_late (pos secs) h = omega (arith, ints)
quotient_late (negsuc secs) h = omega (arith, ints)

shown_late : (zone : Rules) (secs nanos : ℤ) → pos 0 ≤ℤ secs
    → negsuc 719161 <ℤ int_div_euclid (secs +ℤ offset_at zone nanos) (pos 86400)
shown_late zone secs nanos moment =
    let near = offset_at_in zone nanos in
    quotient_late (secs +ℤ offset_at zone nanos) (omega (arith, ints, near.0, near.1))

pub local_day_late : (zone : Rules) (secs : ℤ) → IsMoment secs → negsuc 719161 <ℤ local_day zone secs
unfolding local_day
local_day_late zone secs moment = shown_late zone secs _ moment.0
