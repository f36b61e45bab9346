-- The two pieces after the visits.
use Rattle.std.proofs.lemmas.Result.{on_ok_weaker}
use Rattle.siri_json.proofs.Pieces.{two_pieces}
use Rattle.stop_board.proofs.writing.put_tail.Goals as goal

pub returns : goal.returns
returns c =
    on_ok_weaker c.extend.result (λ e. two_pieces c.args.out.now _ _ _ _ c.in_ok-put_moment.ensures e) c.extend.ensures.added
