-- A zone's clock, by `jiff`'s readings of POSIX rules and of TZif tables (RFC 9636).
use Rattle.std.specs.Prelude.{◌≡◌, ◌⊎◌, ℕ, ℤ, List, None, Ok, Err}
use Rattle.jiff_core.specs.declared.civil.datetime.DateTime.{DateTime}
use Rattle.jiff_core.specs.declared.error.TzifFault.{TzifFault}
use Rattle.jiff_tz.specs.Ambiguous.{compatible_offset}
use Rattle.jiff_tz.specs.Tzif as Tzif
use Rattle.jiff_tz.specs.Tzif.{HasBadRule, RuleAgrees, tzif_view}
use Rattle.jiff_tz.specs.PosixReader.{read_whole}
use Rattle.jiff_tz.specs.TzifReader.{read_tzif}
use Rattle.jiff_tz.specs.Zone as Zone
use Rattle.jiff.specs.Placed.{IsPosixZone}
use Rattle.jiff.specs.ZoneView.{plain_zone}
use Rattle.service_day.specs.declared.zones.Rules.{Rules}
use Rattle.service_day.specs.declared.zones.Rules.TheVariants.{Rule, Table}

-- the seconds that the clock is ahead of UTC at an instant, in nanoseconds since 1970
abbrev pub offset_at : Rules → ℤ → ℤ
offset_at (Rule zone) nanos = Zone.offset_at (plain_zone zone) nanos
offset_at (Table table) nanos = (Tzif.offset_at table nanos).seconds

-- the seconds that the clock is ahead of UTC where it shows a date and time, by the compatible choice: in a gap or a
-- fold those before the change
abbrev pub local_offset : Rules → DateTime → ℤ
local_offset (Rule zone) shown = (compatible_offset (Zone.ambiguous_at (plain_zone zone) shown)).seconds
local_offset (Table table) shown = (compatible_offset (Tzif.ambiguous_at table shown)).seconds

-- the zone is what `jiff` reads from a POSIX rule
abbrev pub IsRuleZone : List ℕ → Rules → Type 0
IsRuleZone text (Rule zone) = IsPosixZone text (plain_zone zone)
IsRuleZone text (Table table) = ⊥

-- `jiff` reads no rule from the text
abbrev pub IsBadRule : List ℕ → Type 0
IsBadRule text = read_whole text ≡ None

-- the zone is what `jiff` reads from the bytes of a TZif file, whose footer agrees with its table
abbrev pub IsTableZone : List ℕ → Rules → Type 0
IsTableZone bytes (Rule zone) = ⊥
IsTableZone bytes (Table table) = (read_tzif bytes ≡ Ok (tzif_view table)) × RuleAgrees table

-- `jiff` refuses the bytes: they aren't of the format, or the footer's rule doesn't agree with the table
abbrev pub IsBadTable : List ℕ → Type 0
IsBadTable bytes = ((fault : TzifFault) × (read_tzif bytes ≡ Err fault)) ⊎ HasBadRule (read_tzif bytes)
