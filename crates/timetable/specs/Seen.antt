-- What a timetable shows.
use Rattle.timetable.specs.Held.{shown}
use Rattle.timetable.specs.Table.{Table}
use Rattle.timetable.specs.declared.timetable.Timetable.{Timetable}

abbrev pub seen : Timetable → Table
seen table =
    shown table.trips table.stops table.routes table.carried.items table.stop_rows.items table.services
    table.stations.items
