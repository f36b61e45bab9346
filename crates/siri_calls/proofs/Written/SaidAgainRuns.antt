-- The run of a journey that a delivery says: its ids, its stops and its times.
use Rattle.std.proofs.Common.{◌≡◌, ℕ, ◌<◌, ◌≤◌, length, true, nat_lt, Option, Some, None, IfSome, option_map, subst, ℤ}
use Rattle.std.specs.List.{list_all}
use Rattle.std.proofs.lemmas.Bool.{and_parts, leb-true}
use Rattle.service_day.specs.Starts.{IsDayStart}
use Rattle.service_day.specs.Windows.{start_in}
use Rattle.timetable.specs.Ids.{are_ids}
use Rattle.timetable.specs.Limits.{stop_limit}
use Rattle.timetable.specs.Sound.{IsSound}
use Rattle.timetable.specs.Stops.{is_timed}
use Rattle.journey_model.specs.Runs.{Run}
use Rattle.journey_model.specs.Schedules.{Schedule, run_from}
use Rattle.journey_model.specs.declared.readings.DatedReading.{DatedReading}
use Rattle.siri_calls.specs.Written.Sayable.{IsSayable}

-- the ids by which the stops of a run are numbered are ids, its stops are of them, and its day has a start
pub record IsSoundRun (run : Run) : Type 0 where
  pub ids : are_ids run.ids ≡ true
  pub few : length run.stops ≤ stop_limit
  pub known : list_all (λ row. nat_lt row.stop.0 (length run.ids)) run.stops ≡ true
  pub timed : list_all is_timed run.stops ≡ true
  pub start : IsDayStart run.start

-- a run on a day whose start is one
started : (schedule : Schedule) (trip : ℕ) (found : Option ℤ) (run : Run) → IfSome found IsDayStart → option_map (run_from schedule.table trip) found ≡ Some run
    → (start : ℤ) × IsDayStart start × (run_from schedule.table trip start ≡ run)
started schedule trip None run h e = absurd (cc)
started schedule trip (Some start) run h e = (start, h, cc)

sound-run-from : (schedule : Schedule) (trip : ℕ) (start : ℤ) → IsSound schedule.table → trip < length schedule.table.trips → IsDayStart start
    → IsSoundRun (run_from schedule.table trip start)
sound-run-from schedule trip start sound in-table h =
    let all = and_parts _ _ (sound.stops_of trip in-table) in
    let more = and_parts _ _ all.1 in
    let last = and_parts _ _ more.1 in
    record { ids = sound.stops; few = leb-true _ _ all.0; known = last.0; timed = last.1; start = h }

-- the run of a reading that can be said is sound
pub sound-run : (schedule : Schedule) (one : DatedReading) → IsSound schedule.table → (h : IsSayable schedule one) → IsSoundRun h.servable.run
sound-run schedule one sound h =
    let found = started schedule one.trip.0 (start_in schedule.window one.day) h.servable.run h.is_start h.servable.on_day in
    subst IsSoundRun found.2 (sound-run-from schedule one.trip.0 found.0 sound h.servable.trip_in found.1)
