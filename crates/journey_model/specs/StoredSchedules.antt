-- How the logic stores a schedule: its timetable, its zone and its window; the table is that which the timetable shows.
use Rattle.std.specs.Prelude.{◌≡◌}
use Rattle.std.specs.Coded.{Coded, code_by, coded×}
use Rattle.service_day.specs.Windows.{DayStarts}
use Rattle.service_day.specs.contracts.windows.Window as window
use Rattle.service_day.specs.contracts.zones.Zone as zone
use Rattle.service_day.specs.declared.zones.Rules.{Rules}
use Rattle.timetable.specs.contracts.timetable.Timetable as timetable
use Rattle.timetable.specs.declared.timetable.Timetable.{Timetable}
use Rattle.journey_model.specs.Schedules.{Schedule, schedule_from}
use mathlib.Core.Path.{contract}

abbrev lent_by : Timetable × (Rules × DayStarts) → Schedule
lent_by lent = schedule_from lent.0 lent.1.0 lent.1.1

abbrev parts_of : Schedule → Timetable × (Rules × DayStarts)
parts_of schedule = (schedule.timetable, (schedule.zone, schedule.window))

pub lent_by-parts_of : (schedule : Schedule) → lent_by (parts_of schedule) ≡ schedule
lent_by-parts_of schedule = λ i. record {
  timetable = schedule.timetable;
  table = (contract schedule.shows i).0;
  zone = schedule.zone;
  window = schedule.window;
  shows = (contract schedule.shows i).1;
}

abbrev pub schedule_code : Coded Schedule
schedule_code = code_by (Timetable × (Rules × DayStarts))
    (coded× timetable.the_row.coded (coded× zone.the_row.coded window.the_row.coded))
    parts_of lent_by lent_by-parts_of
