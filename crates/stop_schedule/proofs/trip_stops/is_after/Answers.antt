use Rattle.std.proofs.Common.{◌≡◌, ◌-◌, ◌<◌, suc, length, get_or, arith}
use Rattle.std.proofs.lemmas.Bool.Decides.{nat_tests}
use Rattle.stop_schedule.specs.declared.trip_stops.BriefStop.{BriefStop}
use Rattle.stop_schedule.proofs.TripStopLemmas.{less-all}
use Rattle.stop_schedule.proofs.trip_stops.is_after.Goals as goal

pub returns-in-len1-up : goal.returns-in-len1-up
returns-in-len1-up c = λ last row minute rising.
    let stops = c.args.stops.now in
    let none : BriefStop = record { sequence = 0; stop = 0; since = 0; stay = 0 } in
    let long : length stops ≡ suc (length stops - 1) = omega (arith, c.in-len1-up.len_at_least) in
    let less : (get_or stops (length stops - 1) none).sequence < c.args.sequence = grind (arith, nat_tests, last) in
    less-all row minute stops (length stops - 1) none c.args.sequence long less rising
