-- The four pieces after the journeys.
use Rattle.std.proofs.lemmas.Result.{on_ok_weaker}
use Rattle.siri_json.proofs.Pieces.{four_pieces}
use Rattle.siri_calls.proofs.writing.put_tail.Goals as goal

pub returns : goal.returns
returns c =
    on_ok_weaker c.extend.result
    (λ e. four_pieces c.args.out.now _ _ _ _ _ _ _ _ c.in_ok-put_moment.ensures c.in_ok-put_moment-2.ensures c.in_ok-put_moment-3.ensures e) c.extend.ensures.added
