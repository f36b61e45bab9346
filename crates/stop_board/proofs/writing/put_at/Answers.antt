-- The four pieces of a visit.
use Rattle.std.proofs.Common.{◌≡◌, []}
use Rattle.std.proofs.lemmas.Option.{get_or_from_slice_get}
use Rattle.std.proofs.lemmas.Result.{on_ok_weaker}
use Rattle.siri_json.proofs.Pieces.{four_pieces}
use Rattle.journey_model.specs.Ids.{id_of}
use Rattle.stop_board.specs.BoardTexts.{visit_text}
use Rattle.stop_board.proofs.writing.put_at.Goals as goal

pub returns : goal.returns
unfolding visit_text
returns c =
    let table = c.args.run.now.table.now in
    let route = c.route_of.ensures.value in
    let trip : id_of table.trips c.args.visit.now.trip.0 ≡ c.trip_id.result.now =
    get_or_from_slice_get table.trips c.args.visit.now.trip.0 c.trip_id.result.now [] c.trip_id.ensures.value in
    let stop : id_of table.stops c.args.stop.0 ≡ c.stop_id.result.now =
    get_or_from_slice_get table.stops c.args.stop.0 c.stop_id.result.now [] c.stop_id.ensures.value in
    on_ok_weaker c.put_end.result
    (λ e. rw (trip, stop) (four_pieces c.args.out.now _ _ _ _ _ _ _ _ c.in_ok-put_ref.ensures (rw route at c.in_ok-put_line.ensures) c.in_ok-put_call.ensures e))
    c.put_end.ensures
