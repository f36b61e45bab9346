-- What is held of the rows of all files.
use Rattle.std.specs.Prelude.{◌≡◌, ℕ, true, List, map, length}
use Rattle.stop_schedule.specs.Holding.{HoldsServices, HoldsStations, HoldsStops, HoldsTrips}
use Rattle.timetable.specs.Services.{Calendars, Exceptions}
use Rattle.stop_schedule.specs.Keeping.{HasTrips, all_loaded}
use Rattle.stop_schedule.specs.Sheet.{rows_in}
use Rattle.stop_schedule.specs.Timetable.{Sheets, ids_in}
use Rattle.stop_schedule.specs.TripStops.{stops_kept}
use Rattle.stop_schedule.specs.Trips.{is_carried}
use Rattle.timetable.specs.declared.numbers.StopNo.{StopNo}
use Rattle.stop_schedule.specs.declared.folder_rows.FolderRows.{FolderRows}
use Rattle.stop_schedule.specs.declared.table_file.TableFile.TheVariants.{Stops, Routes, Trips, Calendar, CalendarDates, Frequencies, StopTimes}

-- the trips, and the calendars and exceptions of their services
abbrev pub HoldsRuns : List (List ℕ) → List (List ℕ) → List ℕ → List ℕ → Calendars → Exceptions → Sheets → Type 0
HoldsRuns routes trips trip_routes trip_services calendars exceptions sheets =
    (services : List (List ℕ)) × HoldsTrips routes services trips trip_routes trip_services (rows_in (sheets Trips))
    × HoldsServices services calendars exceptions (rows_in (sheets Calendar)) (rows_in (sheets CalendarDates))

-- all that is made of the rows, by the ids of stops and routes
pub record HoldsRest (stops routes : List (List ℕ)) (folder : FolderRows) (sheets : Sheets) : Type 0 where
  pub stops_are : folder.stops ≡ stops
  pub routes_are : folder.routes ≡ routes
  pub runs : HoldsRuns routes folder.trips.ids folder.trips.routes.items folder.trips.services.items
      folder.services.calendars folder.services.exceptions sheets
  pub carried : folder.carried.items ≡ map (is_carried (rows_in (sheets Frequencies))) folder.trips.ids
  pub by_trip : HoldsStops folder.trips.ids stops (map stops_kept folder.by_trip.items) (rows_in (sheets StopTimes))

-- the same by the files themselves, and the stations of the stops
pub record HoldsFolder (folder : FolderRows) (stations : List StopNo) (sheets : Sheets) : Type 0 where
  pub rest : HoldsRest (ids_in sheets Stops) (ids_in sheets Routes) folder sheets
  pub stations_are : HoldsStations (ids_in sheets Stops) stations (rows_in (sheets Stops))

-- what is known of it whatever the files say: its trips have routes, and their stops are known and in order
pub record IsLoaded (folder : FolderRows) : Type 0 where
  pub trips : HasTrips (length folder.routes) folder.trips.ids folder.trips.routes.items
  pub stops : all_loaded (length folder.stops) (map stops_kept folder.by_trip.items) ≡ true
