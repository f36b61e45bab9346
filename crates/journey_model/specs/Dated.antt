-- What a trip on a day shows.
use Rattle.timetable.specs.Table.{Table}
use Rattle.journey_model.specs.Runs.{Run}
use Rattle.journey_model.specs.declared.context.DatedTrip.{DatedTrip}

-- over this table
abbrev pub run_of : Table → DatedTrip → Run
run_of table dated =
    record { ids = table.stops; station_of = table.station_of; start = dated.start; stops = dated.stops.now }
