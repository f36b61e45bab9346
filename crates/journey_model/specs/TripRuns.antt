-- What journeys are read over, as code holds it.
use Rattle.timetable.specs.Seen.{seen}
use Rattle.journey_model.specs.Dated.{run_of}
use Rattle.journey_model.specs.Runs.{Run}
use Rattle.journey_model.specs.declared.trip_run.TripRun.{TripRun}

abbrev pub run_over : TripRun → Run
run_over run = run_of (seen run.table.now) run.dated
