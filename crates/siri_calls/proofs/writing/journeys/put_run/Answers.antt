-- The four pieces of a journey.
use Rattle.std.proofs.Common.{◌≡◌, []}
use Rattle.std.proofs.lemmas.Option.{get_or_from_slice_get}
use Rattle.std.proofs.lemmas.Result.{on_ok_weaker}
use Rattle.siri_calls.specs.Written.DeliveryTexts.{journey_text}
use Rattle.siri_json.proofs.Pieces.{four_pieces}
use Rattle.siri_calls.proofs.writing.journeys.put_run.Goals as goal
use Rattle.journey_model.specs.Ids.{id_of}

pub returns : goal.returns
unfolding journey_text
returns c =
    let cancelled = c.is_cancelled.ensures in
    let route = c.route_of.ensures.value in
    let id : id_of c.args.run.now.table.now.trips c.args.one.now.trip.0 ≡ c.trip_id.result.now =
    get_or_from_slice_get c.args.run.now.table.now.trips c.args.one.now.trip.0 c.trip_id.result.now [] c.trip_id.ensures.value in
    let first = rw cancelled at c.in_ok-put_opening.ensures in
    on_ok_weaker c.put_closing.result
    (λ e. rw id (four_pieces c.args.out.now _ _ _ _ _ _ _ _ first c.in_ok-put_calls.ensures c.in_ok-put_frame_ref.ensures (rw route at e)))
    c.put_closing.ensures
