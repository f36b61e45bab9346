-- The two pieces between the trip and the call.
use Rattle.std.proofs.lemmas.Result.{on_ok_weaker}
use Rattle.siri_json.proofs.Pieces.{two_pieces}
use Rattle.stop_board.proofs.writing.put_line.Goals as goal

pub returns : goal.returns
returns c =
    let first = rw c.as_bytes.ensures.value at c.in_ok-put_text.ensures in
    on_ok_weaker c.extend.result (λ e. two_pieces c.args.out.now _ _ _ _ first e) c.extend.ensures.added
