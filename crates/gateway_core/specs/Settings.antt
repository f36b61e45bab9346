-- What a setting keeps.
use Rattle.std.specs.Prelude.{length}
use Rattle.service_day.specs.Windows.{DayStarts, IsWindow}
use Rattle.service_day.specs.declared.zones.Rules.{Rules}

-- the window is one of that zone: each of its days starts by the zone's clock
abbrev pub IsWindowIn : Rules → DayStarts → Type 0
IsWindowIn zone window = IsWindow zone window.first (length window.starts) window
