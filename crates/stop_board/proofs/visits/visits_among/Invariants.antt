-- the visits so far, and those at the stops that are left
use Rattle.std.proofs.Common.{◌≡◌, ◌++◌, drop}
use Rattle.std.specs.List.{enumerate_from, flat_map}
use Rattle.std.specs.Option.{option_to_list}
use Rattle.stop_board.specs.Visits.{visit_at, visits_among}
use Rattle.stop_board.proofs.visits.visits_among.Given as goal

abbrev pub invariant-loop-position : goal.invariant-loop-position
invariant-loop-position l =
    l.visits.items
    ++ flat_map (λ one. option_to_list (visit_at l.asked l.journey l.recorded one.0 one.1)) (enumerate_from l.position (drop l.position l.readings))
    ≡ visits_among l.asked l.journey l.recorded l.readings
