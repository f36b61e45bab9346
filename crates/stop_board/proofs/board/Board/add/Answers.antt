-- The visits of a journey that fits are visits over the schedule.
use Rattle.std.proofs.Common.{◌∙◌, is_ok, sym, subst}
use Rattle.stop_board.specs.Boards.{Board, IsOver}
use Rattle.stop_board.proofs.VisitLemmas.{over_more}
use Rattle.stop_board.proofs.board.Board.add.Goals as goal

pub returns-clause-over : goal.returns-clause-over
returns-clause-over c = λ over.
    over_more c.args.context.now c.self.inside.asked c.args.journey.now c.self.inside.visits.items c.extend_from_slice.new.self.items
    c.as_slice.result.now (is_ok c.extend_from_slice.result) c.requires.fits c.extend_from_slice.ensures.items
    (c.as_slice.ensures.value ∙ c.in_ok-visits.ensures)
    (subst (λ (board : Board). IsOver c.args.context.now board) (sym c.self.view_is) over)
