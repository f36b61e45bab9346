-- The records of dates and times have the day and the second that they are made of.
use Rattle.std.proofs.Common.{◌≡◌, ℕ, ◌*◌, ◌<◌, min, arith, refl, sym, ◌∙◌, ℤ, pos, negsuc, ◌+ℤ◌, ◌*ℤ◌, ◌≤ℤ◌, int_div}
use Rattle.std.specs.Int.{int_div_euclid}
use Rattle.jiff_core.specs.Calendar.{days_in_month}
use Rattle.jiff_core.specs.Date.{epoch_day}
use Rattle.jiff_core.specs.DateTime.{civil_nanos}
use Rattle.jiff_core.specs.Time.{time_nanos}
use Rattle.jiff_core.specs.declared.civil.datetime.DateTime.{DateTime}
use Rattle.jiff_core.specs.Timestamp.{IsOffsetSeconds}
use Rattle.jiff_core.specs.declared.civil.date.Date.{Date}
use Rattle.jiff_core.proofs.SignedLemmas.{signed_arith, int_div_euclid-parts}
use Rattle.jiff_tz.specs.Ambiguous.{compatible_offset}
use Rattle.jiff_tz.specs.PosixRule as PosixRule
use Rattle.jiff_tz.specs.Tzif as Tzif
use Rattle.jiff_tz.specs.Zone as Zone
use Rattle.jiff_tz.specs.declared.timezone.TimeZone.{TimeZone}
use Rattle.jiff_tz.specs.declared.timezone.TimeZone.TheVariants.{UTC, Unknown, Fixed, Posix, Tzif as Tables}
use Rattle.jiff.specs.ZoneView.{plain_zone}
use Rattle.service_day.specs.Zones.{offset_at, local_offset}
use Rattle.service_day.specs.declared.zones.Rules.{Rules}
use Rattle.service_day.specs.declared.zones.Rules.TheVariants.{Rule, Table}
use Rattle.jiff_core.proofs.DateTimeLemmas.{civil_nanos-parts, time_nanos_bound}
use Rattle.jiff.proofs.Family.{same_datetime}
use Rattle.service_day.specs.Civil.{date_of, time_of, shown_at}
use Rattle.service_day.specs.Days.{IsDay, year_of, month_of, day_of_month}
use Rattle.service_day.proofs.DayLemmas.{days_from_civil-parts, day_high, parts_of, year_low}

pub epoch_day-date_of : (n : ℤ) → IsDay n → epoch_day (date_of n) ≡ n
unfolding date_of
epoch_day-date_of n h =
    let same : min (day_of_month n) (days_in_month (pos (year_of n)) (month_of n)) ≡ day_of_month n = omega (arith, day_high n h) in
    rw same (days_from_civil-parts n h)

pub time_nanos-time_of : (second : ℕ) → second < 86400 → time_nanos (time_of second) ≡ second * 1_000_000_000
unfolding time_of
time_nanos-time_of second h = omega arith

-- a date and time with that day and that second are the one of the definition
pub is_shown_at : (dt : DateTime) (n : ℤ) (second : ℕ) → IsDay n → second < 86400 → epoch_day dt.date ≡ n → time_nanos dt.time ≡ second * 1_000_000_000 → dt ≡ shown_at n second
is_shown_at dt n second h k day time =
    same_datetime dt (shown_at n second)
    (civil_nanos-parts dt ∙ (rw (day, time) (sym (civil_nanos-parts (shown_at n second) ∙ (rw (epoch_day-date_of n h, time_nanos-time_of second k) refl)))))

pub civil_nanos-whole : (dt : DateTime) (n : ℤ) (second : ℕ) → epoch_day dt.date ≡ n → time_nanos dt.time ≡ second * 1_000_000_000 → civil_nanos dt ≡ (n *ℤ pos 86400 +ℤ pos second) *ℤ pos 1_000_000_000
civil_nanos-whole dt n second day time = civil_nanos-parts dt ∙ (rw (day, time) (omega (arith, signed_arith)))

-- an instant of whole seconds has those seconds
pub whole_second : (nanos secs : ℤ) → nanos ≡ secs *ℤ pos 1_000_000_000 → int_div nanos (pos 1_000_000_000) ≡ secs
whole_second nanos (pos k) e = rw e (omega (arith, signed_arith))
whole_second nanos (negsuc k) e = rw e (omega (arith, signed_arith))

-- the day of a date and time that has so many whole seconds
pub day_of_seconds : (dt : DateTime) (x : ℤ) → civil_nanos dt ≡ x *ℤ pos 1_000_000_000 → epoch_day dt.date ≡ int_div_euclid x (pos 86400)
day_of_seconds dt x e =
    let q = int_div_euclid-parts x 86400 (omega arith) in
    omega (arith, signed_arith, e, civil_nanos-parts dt, time_nanos_bound dt.time, q.0, q.1)

-- no clock is ahead of UTC, or behind it, by 26 hours
pub local_offset_in : (zone : Rules) (shown : DateTime) → IsOffsetSeconds (local_offset zone shown)
local_offset_in (Rule zone) shown = (compatible_offset (Zone.ambiguous_at (plain_zone zone) shown)).in_range
local_offset_in (Table table) shown = (compatible_offset (Tzif.ambiguous_at table shown)).in_range

jiff_offset_in : (zone : TimeZone) (nanos : ℤ) → IsOffsetSeconds (Zone.offset_at zone nanos)
unfolding Zone.offset_at
jiff_offset_in UTC nanos = omega (arith, signed_arith)
jiff_offset_in Unknown nanos = omega (arith, signed_arith)
jiff_offset_in (Fixed offset) nanos = offset.in_range
jiff_offset_in (Posix rule) nanos = (PosixRule.offset_at rule nanos).in_range
jiff_offset_in (Tables table) nanos = (Tzif.offset_at table.now nanos).in_range

pub offset_at_in : (zone : Rules) (nanos : ℤ) → IsOffsetSeconds (offset_at zone nanos)
offset_at_in (Rule zone) nanos = jiff_offset_in (plain_zone zone) nanos
offset_at_in (Table table) nanos = (Tzif.offset_at table nanos).in_range

-- the year of a day's date
pub year_of_day : (d : Date) → IsDay (epoch_day d) → pos 1 ≤ℤ d.year
year_of_day d h = rw (parts_of (epoch_day d) d h refl).0 (omega (arith, signed_arith, year_low (epoch_day d)))
