-- The three pieces of a call.
use Rattle.std.proofs.Common.{◌≡◌, []}
use Rattle.std.proofs.lemmas.Option.{get_or_from_slice_get}
use Rattle.std.proofs.lemmas.Result.{on_ok_weaker}
use Rattle.siri_calls.specs.Written.DeliveryTexts.{call_text}
use Rattle.siri_json.proofs.Pieces.{three_pieces}
use Rattle.journey_model.specs.Ids.{id_of}
use Rattle.journey_model.specs.declared.readings.StopReading.TheVariants.{Timed}
use Rattle.journey_model.proofs.NearLemmas.{are_moments}
use Rattle.stop_board.proofs.writing.put_call.Goals as goal

pub put_times-requires : goal.put_times-requires
put_times-requires c =
    are_moments c.args.run.now.dated.start c.args.row.now (Timed c.args.visit.now.arrival c.args.visit.now.departure c.args.stop)
    c.args.run.now.dated.day_start c.requires.timed c.requires.near

pub returns : goal.returns
unfolding call_text
returns c =
    let stops = c.args.run.now.table.now.stops in
    let id : id_of stops c.args.stop.0 ≡ c.stop_id.result.now = get_or_from_slice_get stops c.args.stop.0 c.stop_id.result.now [] c.stop_id.ensures.value in
    on_ok_weaker c.put_stop.result
    (λ e. rw id (three_pieces c.args.out.now _ _ _ _ _ _ (rw c.planned_times.ensures.value at c.in_ok-put_aimed.ensures) c.in_ok-put_times.ensures e))
    c.put_stop.ensures
