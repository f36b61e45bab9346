-- The two pieces of a cancelled call.
use Rattle.std.proofs.Common.{codes}
use Rattle.std.proofs.lemmas.Result.{on_ok_weaker}
use Rattle.sample_maker.specs.Deliveries.{stop_text}
use Rattle.sample_maker.proofs.ListLemmas.{two_pieces}
use Rattle.sample_maker.proofs.journeys.put_cancelled.Goals as goal

pub returns : goal.returns
returns c =
    on_ok_weaker c.put_stop.result
    (λ e. two_pieces c.args.out.now (codes "{\"Cancellation\":true") (stop_text c.args.place) _ _ c.in_ok-extend.ensures.added e) c.put_stop.ensures
