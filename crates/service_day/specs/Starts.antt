-- When service days start (GTFS Schedule: times count from noon minus 12 hours of the service day).
use Rattle.std.specs.Prelude.{ℕ, ℤ, pos, ◌+ℤ◌, ◌-ℤ◌, ◌*ℤ◌}
use Rattle.std.specs.Int.{int_div_euclid}
use Rattle.jiff_core.specs.Calendar.{IsBetween}
use Rattle.jiff_core.specs.Timestamp.{nanos_of_seconds}
use Rattle.service_day.specs.Civil.{shown_at}
use Rattle.service_day.specs.Zones.{offset_at, local_offset}
use Rattle.service_day.specs.declared.zones.Rules.{Rules}

-- a day from 1971-01-01 to 9997-12-31
abbrev pub IsServiceDay : ℤ → Type 0
IsServiceDay day = IsBetween (pos 365) (pos 2932166) day

-- a second at which a service day may start: no clock is ahead of UTC, or behind it, by 26 hours
abbrev pub IsDayStart : ℤ → Type 0
IsDayStart secs = IsBetween (pos 31400000) (pos 253339300000) secs

-- the seconds since 1970 at which the zone's clock shows that second of the day, by the compatible choice
abbrev pub local_second : Rules → ℤ → ℕ → ℤ
local_second zone day second = day *ℤ pos 86400 +ℤ pos second -ℤ local_offset zone (shown_at day second)

-- the start of a service day, in seconds since 1970: local noon minus 12 hours
unfoldable pub start : Rules → ℤ → ℤ
start zone day = local_second zone day 43200 -ℤ pos 43200

-- the day on which the zone's clock stands at a moment
unfoldable pub local_day : Rules → ℤ → ℤ
local_day zone secs = int_div_euclid (secs +ℤ offset_at zone (nanos_of_seconds secs)) (pos 86400)
