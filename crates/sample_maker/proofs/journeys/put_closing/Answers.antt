-- The three pieces of a journey's end.
use Rattle.std.proofs.Common.{codes, decimal}
use Rattle.std.proofs.lemmas.Result.{on_ok_weaker}
use Rattle.sample_maker.specs.Pieces.{led}
use Rattle.sample_maker.proofs.ListLemmas.{three_pieces}
use Rattle.sample_maker.proofs.journeys.put_closing.Goals as goal

pub returns : goal.returns
returns c =
    on_ok_weaker c.extend-2.result
    (λ e. three_pieces c.args.out.now (codes "]},\"FramedVehicleJourneyRef\":{\"DataFrameRef\":\"2024-05-01\"")
    (led (codes ",\"DatedVehicleJourneyRef\":\"G") (decimal c.args.trip)) _ _ _ _ c.in_ok-extend.ensures.added c.in_ok-put_number.ensures e)
    c.extend-2.ensures.added
