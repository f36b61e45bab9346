-- the visits so far, and after them the text of the others
use Rattle.std.proofs.Common.{◌≡◌, ◌++◌, false, drop}
use Rattle.stop_board.specs.BoardTexts.{visits_text}
use Rattle.stop_board.proofs.writing.put_visits.Given as goal

abbrev pub invariant-loop-visit : goal.invariant-loop-visit
invariant-loop-visit l =
    l.out ++ visits_text l.later l.context l.stop (drop l.visit-index l.visits)
    ≡ l.fn.out ++ visits_text false l.context l.stop l.visits
