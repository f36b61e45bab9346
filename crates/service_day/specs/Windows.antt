-- A window of service days with their starts.
use Rattle.std.specs.Prelude.{◌≡◌, ℕ, ◌&&◌, int_le, int_lt, if◌then◌else◌, ℤ, pos, ◌+ℤ◌, ◌-ℤ◌, unsigned_abs, Option, Some, None, List, length, slice_index_or}
use Rattle.service_day.specs.Starts.{start}
use Rattle.service_day.specs.declared.zones.Rules.{Rules}

-- a window as contracts see it: its first day, and the starts of its days in order
pub record DayStarts : Type 0 where
  pub first : ℤ
  pub starts : List ℤ

-- the start that a window has for a day
abbrev pub start_in : DayStarts → ℤ → Option ℤ
start_in window day =
    if int_le window.first day && int_lt day (window.first +ℤ pos (length window.starts))
    then Some (slice_index_or window.starts (unsigned_abs (day -ℤ window.first)) (pos 0))
    else None

-- the start of a day in the zone, for each of so many days from the first on
abbrev pub start_among : Rules → ℤ → ℕ → ℤ → Option ℤ
start_among zone first days day =
    if int_le first day && int_lt day (first +ℤ pos days) then Some (start zone day) else None

-- the window has so many days from the first on, each with its start in the zone
pub record IsWindow (zone : Rules) (first : ℤ) (days : ℕ) (window : DayStarts) : Type 0 where
  pub first_is : window.first ≡ first
  pub days_are : length window.starts ≡ days
  pub starts_are : (day : ℤ) → start_in window day ≡ start_among zone first days day
