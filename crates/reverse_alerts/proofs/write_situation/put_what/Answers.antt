-- Three pieces.
use Rattle.std.proofs.lemmas.Result.{on_ok_weaker}
use Rattle.siri_json.proofs.Pieces.{three_pieces}
use Rattle.reverse_alerts.proofs.write_situation.put_what.Goals as goal

pub returns : goal.returns
returns c =
    on_ok_weaker c.put_created.result (λ e. three_pieces c.args.out.now _ _ _ _ _ _ c.in_ok-put_affects.ensures c.in_ok-put_effect.ensures e) c.put_created.ensures
