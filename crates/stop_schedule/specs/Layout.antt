-- What is read of each file (GTFS Schedule reference): its columns in order with their forms.
use Rattle.std.specs.Prelude.{Bool, true, false, List, [], ◌∷◌}
use Rattle.stop_schedule.specs.declared.column.Column.{Column}
use Rattle.stop_schedule.specs.declared.forms.Form.{Form}
use Rattle.stop_schedule.specs.declared.table_file.TableFile.{TableFile}
use Rattle.stop_schedule.specs.declared.table_file.TableFile.TheVariants.{Agency, Stops, Routes, Trips, Calendar, CalendarDates, Frequencies, StopTimes}

abbrev pub columns : TableFile → List (Column × Form)
columns Agency = (Column.AgencyTimezone, Form.Any) ∷ []
columns Stops = (Column.StopId, Form.Id) ∷ (Column.ParentStation, Form.OptionalId) ∷ []
columns Routes = (Column.RouteId, Form.Id) ∷ []
columns Trips = (Column.TripId, Form.Id) ∷ (Column.RouteId, Form.Id) ∷ (Column.ServiceId, Form.Id) ∷ []
columns Calendar =
    (Column.ServiceId, Form.Id) ∷ (Column.Monday, Form.Flag) ∷ (Column.Tuesday, Form.Flag)
    ∷ (Column.Wednesday, Form.Flag) ∷ (Column.Thursday, Form.Flag) ∷ (Column.Friday, Form.Flag)
    ∷ (Column.Saturday, Form.Flag) ∷ (Column.Sunday, Form.Flag) ∷ (Column.StartDate, Form.Date)
    ∷ (Column.EndDate, Form.Date) ∷ []
columns CalendarDates =
    (Column.ServiceId, Form.Id) ∷ (Column.Date, Form.Date) ∷ (Column.ExceptionType, Form.Exception) ∷ []
columns Frequencies = (Column.TripId, Form.Id) ∷ []
columns StopTimes =
    (Column.TripId, Form.Id) ∷ (Column.StopSequence, Form.Sequence) ∷ (Column.StopId, Form.Id)
    ∷ (Column.ArrivalTime, Form.Time) ∷ (Column.DepartureTime, Form.Time) ∷ []

-- a file may lack the column, which is the last that is read of its file
abbrev pub is_optional : Column → Bool
is_optional Column.ParentStation = true
is_optional column = false
