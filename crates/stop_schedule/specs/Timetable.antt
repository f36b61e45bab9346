-- The timetable that the files of a folder mean (GTFS Schedule reference).
use Rattle.std.specs.Prelude.{ℕ, ℤ, Bool, false, List, [], ◌++◌, map, slice_get, codes, Option, Some, None, option_map, Result}
use Rattle.std.specs.Option.{option_or}
use Rattle.gw_base.specs.Directory.{bytes_of}
use Rattle.gw_base.specs.Chains.{unless_fault}
use Rattle.stop_schedule.specs.Causes.{zone_fault, duplicate_fault, parent_fault, trip_fault, calendar_fault, date_fault, frequency_fault, stop_time_fault}
use Rattle.stop_schedule.specs.Faults.{first_fault, needed_fault, optional_fault}
use Rattle.stop_schedule.specs.Places.{own_id, trips_trip_id, trips_route_id, trips_service_id}
use Rattle.stop_schedule.specs.Services.{exception_in, calendar_in}
use Rattle.timetable.specs.Services.{runs_by}
use Rattle.stop_schedule.specs.Sheet.{Row, nth, sheet_in, rows_in}
use Rattle.stop_schedule.specs.Stations.{station_in}
use Rattle.stop_schedule.specs.StopTimes.{stops_in, filled, untimed_end, least}
use Rattle.timetable.specs.Table.{Table}
use Rattle.stop_schedule.specs.Trips.{carried_rows}
use Rattle.stop_schedule.specs.declared.stop_times.LoadedStop.{LoadedStop}
use Rattle.timetable.specs.declared.stop_row.StopRow.{StopRow}
use Rattle.stop_schedule.specs.declared.table_file.TableFile.{TableFile}
use Rattle.stop_schedule.specs.declared.table_file.TableFile.TheVariants.{Agency, Stops, Routes, Trips, Calendar, CalendarDates, Frequencies, StopTimes}
use Rattle.stop_schedule.specs.declared.table_fault.TableFault.{TableFault}
use Rattle.stop_schedule.specs.declared.table_fault.TableFault.TheVariants.{Missing, UntimedEnd}

-- the name of a file in the folder
abbrev pub file_name : TableFile → List ℕ
file_name Agency = codes "agency.txt"
file_name Stops = codes "stops.txt"
file_name Routes = codes "routes.txt"
file_name Trips = codes "trips.txt"
file_name Calendar = codes "calendar.txt"
file_name CalendarDates = codes "calendar_dates.txt"
file_name Frequencies = codes "frequencies.txt"
file_name StopTimes = codes "stop_times.txt"

-- the name of a file after its folder's
abbrev pub path_of : List ℕ → TableFile → List ℕ
path_of dir file = dir ++ codes "/" ++ file_name file

-- what is there of each file of a folder: nothing, its data rows, or its fault before them
abbrev pub Sheets : Type 0
Sheets = TableFile → Option (Result (List Row) TableFault)

abbrev pub sheets_in : List (List ℕ × List ℕ) → List ℕ → Sheets
sheets_in files dir file = option_map (sheet_in file) (bytes_of files (path_of dir file))

-- the ids of a file's rows
abbrev pub ids_in : Sheets → TableFile → List (List ℕ)
ids_in sheets file = map (nth own_id) (rows_in (sheets file))

-- of the two calendar files one has to be there, which is found at the second
abbrev pub dates_fault : Option (Result (List Row) TableFault) → Option (Result (List Row) TableFault)
    → Option TableFault
dates_fault None None = Some (Missing Calendar)
dates_fault (Some calendar) None = None
dates_fault calendar (Some dates) = optional_fault CalendarDates date_fault (Some dates)

-- the first fault of the two
abbrev pub calendars_fault : Sheets → Option TableFault
calendars_fault sheets =
    option_or (optional_fault Calendar calendar_fault (sheets Calendar))
    (dates_fault (sheets Calendar) (sheets CalendarDates))

-- the trips that are carried
abbrev pub trips_in : Sheets → List Row
trips_in sheets = carried_rows (rows_in (sheets Frequencies)) (rows_in (sheets Trips))

-- the stops of a trip by its row
abbrev pub stops_of_trip : Sheets → Row → List LoadedStop
stops_of_trip sheets trip = stops_in (ids_in sheets Stops) (rows_in (sheets StopTimes)) (nth trips_trip_id trip)

-- the least row of a carried trip's first or last stop that has no times
abbrev pub untimed_in : Sheets → Option ℕ
untimed_in sheets =
    least (map (λ trip. untimed_end (stops_of_trip sheets trip)) (trips_in sheets))

-- the first row of stops.txt whose parent is no stop of the file
abbrev pub parents_fault : List Row → Option TableFault
parents_fault rows = first_fault (parent_fault (map (nth own_id) rows)) [] rows

-- the first fault of stops.txt: of its rows, and after all of them of their parents
abbrev pub stop_names_fault : Option (Result (List Row) TableFault) → Option TableFault
stop_names_fault sheet =
    option_or (needed_fault Stops (duplicate_fault Stops) sheet) (parents_fault (rows_in sheet))

-- the first fault of the files that name zones, stops and routes
abbrev pub names_fault : Sheets → Option TableFault
names_fault sheets =
    option_or (needed_fault Agency zone_fault (sheets Agency))
    (option_or (stop_names_fault (sheets Stops))
    (needed_fault Routes (duplicate_fault Routes) (sheets Routes)))

-- of trips.txt and the calendar files, where these are the ids of the routes
abbrev pub runs_fault : List (List ℕ) → Sheets → Option TableFault
runs_fault routes sheets = option_or (needed_fault Trips (trip_fault routes) (sheets Trips)) (calendars_fault sheets)

-- of frequencies.txt and stop_times.txt, where these are the ids of the trips and the stops
abbrev pub stops_fault : List (List ℕ) → List (List ℕ) → Sheets → Option TableFault
stops_fault trips stops sheets =
    option_or (optional_fault Frequencies (frequency_fault trips) (sheets Frequencies))
    (needed_fault StopTimes (stop_time_fault trips stops) (sheets StopTimes))

-- of the files after those of the names
abbrev pub rest_fault : List (List ℕ) → List (List ℕ) → Sheets → Option TableFault
rest_fault routes stops sheets = option_or (runs_fault routes sheets) (stops_fault (ids_in sheets Trips) stops sheets)

-- the first fault of all files
abbrev pub files_fault : Sheets → Option TableFault
files_fault sheets =
    option_or (names_fault sheets) (rest_fault (ids_in sheets Routes) (ids_in sheets Stops) sheets)

-- the first fault of a folder: files in their order, and untimed ends after all rows
abbrev pub folder_fault : Sheets → Option TableFault
folder_fault sheets = option_or (files_fault sheets) (option_map UntimedEnd (untimed_in sheets))

-- the route of a trip
abbrev pub route_in : Option Row → List ℕ
route_in None = []
route_in (Some trip) = nth trips_route_id trip

-- its stops, by the ids of stops and the rows of stop_times.txt
abbrev pub stop_rows_in : List (List ℕ) → List Row → Option Row → List StopRow
stop_rows_in stops rows None = []
stop_rows_in stops rows (Some trip) = filled (stops_in stops rows (nth trips_trip_id trip))

-- whether it runs on a day, by the rows of the calendar files
abbrev pub runs_in : List Row → List Row → Option Row → ℤ → Bool
runs_in calendars dates None day = false
runs_in calendars dates (Some trip) day =
    runs_by (exception_in dates (nth trips_service_id trip) day) (calendar_in calendars (nth trips_service_id trip)) day

-- the timetable of a folder without fault
abbrev pub table_of : Sheets → Table
table_of sheets = record {
  trips = map (nth trips_trip_id) (trips_in sheets);
  stops = ids_in sheets Stops;
  routes = ids_in sheets Routes;
  route_of = λ trip. route_in (slice_get (trips_in sheets) trip);
  stops_of = λ trip. stop_rows_in (ids_in sheets Stops) (rows_in (sheets StopTimes)) (slice_get (trips_in sheets) trip);
  runs = λ trip day.
      runs_in (rows_in (sheets Calendar)) (rows_in (sheets CalendarDates)) (slice_get (trips_in sheets) trip) day;
  station_of = λ stop. station_in (ids_in sheets Stops) (slice_get (rows_in (sheets Stops)) stop) stop;
}

-- the timetable of a folder, or its first fault; of two files of one name the first counts
abbrev pub timetable : List (List ℕ × List ℕ) → List ℕ → Result Table TableFault
timetable files dir = unless_fault (folder_fault (sheets_in files dir)) (table_of (sheets_in files dir))
