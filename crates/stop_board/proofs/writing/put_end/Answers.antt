-- The three pieces after a call.
use Rattle.std.proofs.lemmas.Result.{on_ok_weaker}
use Rattle.siri_json.proofs.Pieces.{three_pieces}
use Rattle.stop_board.proofs.writing.put_end.Goals as goal

pub returns : goal.returns
returns c =
    let first = rw c.as_bytes.ensures.value at c.in_ok-put_text.ensures in
    on_ok_weaker c.push.result (λ e. three_pieces c.args.out.now _ _ _ _ _ _ first c.in_ok-put_recorded.ensures e) c.push.ensures.added
