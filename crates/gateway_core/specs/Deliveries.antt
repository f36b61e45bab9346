-- What journeys are read over, and what is taken of verdicts.
use Rattle.std.specs.Prelude.{List, Result}
use Rattle.std.specs.List.{filter_map}
use Rattle.std.specs.Result.{result_ok}
use Rattle.service_day.specs.Windows.{DayStarts}
use Rattle.journey_model.specs.Schedules.{Schedule, schedule_from}
use Rattle.journey_model.specs.declared.fault.Fault.{Fault}
use Rattle.gateway_core.specs.declared.setting.Setting.{Setting}

-- what journeys are read over, in a window and in the one of the setting
abbrev pub schedule_over : Setting → DayStarts → Schedule
schedule_over setting window = schedule_from setting.table setting.zone window

abbrev pub schedule_in : Setting → Schedule
schedule_in setting = schedule_over setting setting.window

-- what is taken of verdicts
abbrev pub taken : {A : Type 0} → List (Result A Fault) → List A
taken verdicts = filter_map result_ok verdicts
