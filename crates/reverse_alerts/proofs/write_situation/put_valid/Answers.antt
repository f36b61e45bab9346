-- The periods, of which there are some.
use Rattle.std.proofs.lemmas.Result.{on_ok_weaker}
use Rattle.reverse_alerts.proofs.Pieces.{some_valid}
use Rattle.reverse_alerts.proofs.write_situation.put_valid.Goals as goal

pub returns : goal.returns
returns c =
    on_ok_weaker c.put_periods.result
    (λ e. some_valid c.args.periods.now c.args.out.now _ _ c.is_empty.result c.is_empty.ensures c.if-is_empty.false c.in_ok-extend.ensures.added e) c.put_periods.ensures
