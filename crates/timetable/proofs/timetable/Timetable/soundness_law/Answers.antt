use Rattle.std.specs.Prelude.{length}
use Rattle.timetable.proofs.SoundLemmas.{routes-sound, stations-sound, stops-sound}
use Rattle.timetable.proofs.timetable.Timetable.soundness_law.Goals as goal

pub returns : goal.returns
returns c =
    let table = c.args.self.now in
    record {
      trips = c.len.ensures.ids;
      stops = c.len-2.ensures.ids;
      routes = c.len-3.ensures.ids;
      stops_of = stops-sound table.trips table.routes table.stops table.carried.items table.stop_rows.items
          table.in_range;
      route_of = routes-sound table.trips table.routes table.stops table.carried.items table.stop_rows.items
          table.in_range c.len-3.ensures.ids;
      station_of = stations-sound (length table.stops) table.stations.items table.stations_known;
    }
