-- the visits so far and those of the journeys that are left are the visits of all
use Rattle.std.proofs.Common.{◌≡◌, ◌++◌, drop}
use Rattle.std.specs.List.{flat_map}
use Rattle.stop_board.specs.Boards.{IsOver}
use Rattle.stop_board.specs.Visits.{visits_of}
use Rattle.board_command.proofs.board.add_all.Given as goal

abbrev pub invariant-loop-journey : goal.invariant-loop-journey
invariant-loop-journey l =
    (l.board.asked ≡ l.fn.board.asked)
    × (l.board.visits ++ flat_map (visits_of l.fn.board.asked) (drop l.journey-index l.journeys)
    ≡ l.fn.board.visits ++ flat_map (visits_of l.fn.board.asked) l.journeys)
    × (IsOver l.context l.fn.board → IsOver l.context l.board)
