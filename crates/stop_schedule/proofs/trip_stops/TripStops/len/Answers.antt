use Rattle.std.proofs.Common.{◌≡◌, ◌∙◌, length, vec_len, sym, arith}
use Rattle.stop_schedule.proofs.TripStopLemmas.{length-expanded}
use Rattle.stop_schedule.proofs.trip_stops.TripStops.len.Goals as goal

pub returns-in-Brief : goal.returns-in-Brief
returns-in-Brief c =
    let brief = c.in-Brief.brief in
    let count : vec_len brief.stops ≡ length brief.stops.items = omega arith in
    rw c.in-Brief.is (c.len.ensures ∙ count ∙ sym (length-expanded brief.row brief.minute brief.stops.items))
