use Rattle.std.proofs.Common.{◌≡◌, ◌∙◌, ◌∷◌, [], ◌++◌, ◌+◌, ℕ, List, length, vec_len, ap, arith}
use Rattle.stop_schedule.specs.TripStops.{all_expanded, expanded}
use Rattle.stop_schedule.specs.declared.stop_times.LoadedStop.{LoadedStop}
use Rattle.stop_schedule.proofs.TripStopLemmas.{expanded-after}
use Rattle.stop_schedule.proofs.trip_stops.append.Goals as goal

pub returns-clause-added : goal.returns-clause-added
returns-clause-added c =
    let begun = c.begin.new.held in
    let stop_is = rw c.len.ensures at c.in-Some.ensures in
    let row_is : begun.row + length begun.stops.items ≡ begun.row + vec_len begun.stops = omega arith in
    ap (all_expanded begun.row begun.minute) c.in_ok-push.ensures.items
    ∙ expanded-after begun.row begun.minute begun.stops.items c.in-Some.brief
    ∙ ap (λ (row : ℕ). all_expanded begun.row begun.minute begun.stops.items
    ++ expanded row begun.minute c.in-Some.brief ∷ []) row_is
    ∙ ap (λ (last : LoadedStop). all_expanded begun.row begun.minute begun.stops.items ++ last ∷ []) stop_is
    ∙ ap (λ (stops : List LoadedStop). stops ++ c.args.stop.now ∷ []) c.begin.ensures
