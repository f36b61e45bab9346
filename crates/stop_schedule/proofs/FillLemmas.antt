-- Stops with their times, one after the other.
use Rattle.std.proofs.Common.{◌≡◌, ◌∙◌, ◌<◌, ◌+◌, ℕ, List, [], ◌∷◌, ◌++◌, length, drop, get_or, drop-cons, slice_get, Some, ap, sym, add-one, append_assoc}
use Rattle.std.proofs.lemmas.Option.{slice_get-get_or}
use Rattle.stop_schedule.specs.StopTimes.{filled_from, times_at}
use Rattle.stop_schedule.specs.declared.stop_times.LoadedStop.{LoadedStop}
use Rattle.timetable.specs.declared.stop_row.StopRow.{StopRow}

-- one stop more stands after those so far
pub filled-next : (stops : List LoadedStop) (place : ℕ) (d : LoadedStop) (into all : List StopRow) (times : ℕ × ℕ)
    → place < length stops
    → ((stop : LoadedStop) → slice_get stops place ≡ Some stop → times ≡ times_at stops place stop)
    → into ++ filled_from stops place (drop place stops) ≡ all
    → (into ++ record {
      sequence = (get_or stops place d).sequence;
      stop = (get_or stops place d).stop;
      arrival = times.0;
      departure = times.1;
    } ∷ [])
    ++ filled_from stops (place + 1) (drop (place + 1) stops) ≡ all
filled-next stops place d into all times within are so_far =
    let stop = get_or stops place d in
    let rest = filled_from stops (place + 1) (drop (place + 1) stops) in
    let cell : drop place stops ≡ stop ∷ drop (place + 1) stops = rw (add-one place) (drop-cons stops place d within) in
    let is = are stop (slice_get-get_or stops place d within) in
    append_assoc into _ rest
    ∙ ap (λ (t : ℕ × ℕ). into
    ++ (record { sequence = stop.sequence; stop = stop.stop; arrival = t.0; departure = t.1 } ∷ rest)) is
    ∙ ap (λ left. into ++ filled_from stops place left) (sym cell) ∙ so_far
