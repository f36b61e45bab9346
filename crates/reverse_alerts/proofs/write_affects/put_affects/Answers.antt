-- Three pieces.
use Rattle.std.proofs.lemmas.Result.{on_ok_weaker}
use Rattle.siri_json.proofs.Pieces.{three_pieces}
use Rattle.reverse_alerts.specs.SituationTexts.{affects_text}
use Rattle.reverse_alerts.proofs.write_affects.put_affects.Goals as goal

pub returns : goal.returns
unfolding affects_text
returns c =
    on_ok_weaker c.push.result (λ e. three_pieces c.args.out.now _ _ _ _ _ _ c.in_ok-extend.ensures.added c.in_ok-put_kinds.ensures e) c.push.ensures.added
