-- The three pieces of a call.
use Rattle.std.proofs.Common.{◌≡◌, [], length}
use Rattle.std.proofs.lemmas.Bool.{lt-ltb, ltb-true}
use Rattle.std.proofs.lemmas.Option.{get_or_from_slice_get}
use Rattle.std.proofs.lemmas.Result.{on_ok_weaker}
use Rattle.siri_calls.specs.Written.DeliveryTexts.{call_text}
use Rattle.siri_calls.specs.Written.DeliveryTree.{called_at}
use Rattle.siri_json.proofs.Pieces.{three_pieces}
use Rattle.siri_calls.proofs.Written.WrittenTimes.{called_known}
use Rattle.siri_calls.proofs.writing.calls.put_call.Goals as goal
use Rattle.journey_model.specs.Ids.{id_of}
use Rattle.journey_model.specs.TripRuns.{run_over}

pub returns : goal.returns
unfolding call_text
returns c =
    let stop = called_at c.args.row.now c.args.reading.now in
    let id : id_of c.args.run.now.table.now.stops stop ≡ c.stop_id.result.now =
    get_or_from_slice_get c.args.run.now.table.now.stops stop c.stop_id.result.now [] (rw c.called_at.ensures at c.stop_id.ensures.value) in
    on_ok_weaker c.put_stop.result (λ e. rw id (three_pieces c.args.out.now _ _ _ _ _ _ (rw c.planned_times.ensures.value at c.in_ok-put_aimed.ensures) c.in_ok-put_said.ensures e)) c.put_stop.ensures

pub stop_id-requires : goal.stop_id-requires
stop_id-requires c =
    let run = run_over c.args.run.now in
    let known = lt-ltb c.args.row.now.stop.0 (length run.ids) c.requires.known in
    rw c.called_at.ensures (ltb-true _ _ (called_known run c.args.row.now c.args.reading.now known c.requires.placed))
