-- The entity is the record's one message, which says its reading.
use Rattle.std.proofs.Common.{◌≡◌, ◌∙◌, Some, true, sym, ap, bytes_eq, position, slice_get, subst}
use Rattle.std.specs.List.{flat_map}
use Rattle.feed_writing.specs.Written.{written}
use Rattle.journey_model.specs.Records.{Recorded, recorded}
use Rattle.journey_model.specs.Dated.{run_of}
use Rattle.journey_model.specs.Readings.{fits_trip}
use Rattle.journey_model.specs.Runs.{Run}
use Rattle.journey_model.specs.Schedules.{Schedule}
use Rattle.latest_store.proofs.EntityLemmas.{anyway, empty_so, id_found, made, meant, means_none, messages_none}
use Rattle.latest_store.specs.Entities.{is_silent, message}
use Rattle.latest_store.specs.Reads.{SaysItself}
use Rattle.sparse_planner.specs.Means.{Says}
use Rattle.sparse_planner.specs.Shortest.{shortest}
use Rattle.latest_store.proofs.ReadingLemmas.{IsNamed, says_itself, silent_says}
use Rattle.latest_store.proofs.preparing.entity_of.Goals as goal

pub returns-then-is_silent-clause-bytes : goal.returns-then-is_silent-clause-bytes
returns-then-is_silent-clause-bytes c =
    let run : Run = run_of c.args.context.now.table c.args.dated.now in
    c.new.ensures.empty ∙ sym (ap (flat_map written) (messages_none c.args.context.now (recorded c.args.rec.now) run c.requires.on_day (sym c.is_silent.ensures ∙ c.if-is_silent.true)))

pub returns-then-is_silent-clause-empty : goal.returns-then-is_silent-clause-empty
returns-then-is_silent-clause-empty c = ((λ none. sym c.is_silent.ensures ∙ c.if-is_silent.true), (λ silent. c.new.ensures.empty))

pub returns-then-is_silent-clause-means : goal.returns-then-is_silent-clause-means
returns-then-is_silent-clause-means c = λ before feed h.
    let run : Run = run_of c.args.context.now.table c.args.dated.now in
    rw (c.new.ensures.empty, messages_none c.args.context.now (recorded c.args.rec.now) run c.requires.on_day (sym c.is_silent.ensures ∙ c.if-is_silent.true)) (means_none before feed h)

pub returns-then-is_silent-clause-says : goal.returns-then-is_silent-clause-says
returns-then-is_silent-clause-says c =
    let run : Run = run_of c.args.context.now.table c.args.dated.now in
    silent_says c.args.context.now (recorded c.args.rec.now) run c.requires.on_day (sym c.is_silent.ensures ∙ c.if-is_silent.true)

pub returns-clause-bytes : goal.returns-clause-bytes
returns-clause-bytes c =
    let schedule : Schedule = c.args.context.now in
    let run : Run = run_of c.args.context.now.table c.args.dated.now in
    made c.entity_bytes.result schedule (recorded c.args.rec.now) run c.in_ok-entity.entity c.requires.on_day (sym c.is_silent.ensures ∙ c.if-is_silent.false)
    (rw (← id_found c.args.context.now.table.trips c.args.rec.now.trip.0 c.trip_id.result.now
    (subst (λ (lent : Schedule). slice_get lent.table.trips c.args.rec.now.trip.0 ≡ Some c.trip_id.result.now) c.context.view_is c.trip_id.ensures.value)) at
    (subst (λ (lent : Schedule). c.in_ok-entity.entity ≡ message c.trip_id.result.now (run_of lent.table c.args.dated.now) (recorded c.args.rec.now)) c.context.view_is c.in_ok-entity.ensures.message)) c.entity_bytes.ensures.written

pub returns-clause-empty : goal.returns-clause-empty
returns-clause-empty c = empty_so c.entity_bytes.result c.in_ok-entity.entity (is_silent c.args.rec.now.reading) (sym c.is_silent.ensures ∙ c.if-is_silent.false) c.entity_bytes.ensures.written

pub returns-clause-means : goal.returns-clause-means
returns-clause-means c =
    let schedule : Schedule = c.args.context.now in
    let run : Run = run_of c.args.context.now.table c.args.dated.now in
    meant c.entity_bytes.result schedule (recorded c.args.rec.now) run c.in_ok-entity.entity c.requires.on_day (sym c.is_silent.ensures ∙ c.if-is_silent.false)
    (rw (← id_found c.args.context.now.table.trips c.args.rec.now.trip.0 c.trip_id.result.now
    (subst (λ (lent : Schedule). slice_get lent.table.trips c.args.rec.now.trip.0 ≡ Some c.trip_id.result.now) c.context.view_is c.trip_id.ensures.value)) at
    (subst (λ (lent : Schedule). c.in_ok-entity.entity ≡ message c.trip_id.result.now (run_of lent.table c.args.dated.now) (recorded c.args.rec.now)) c.context.view_is c.in_ok-entity.ensures.message)) c.entity_bytes.ensures.means

pub returns-clause-says : goal.returns-clause-says
returns-clause-says c =
    let schedule : Schedule = c.args.context.now in
    let one : Recorded = recorded c.args.rec.now in
    let run : Run = run_of c.args.context.now.table c.args.dated.now in
    let id = id_found c.args.context.now.table.trips c.args.rec.now.trip.0 c.trip_id.result.now
    (subst (λ (lent : Schedule). slice_get lent.table.trips c.args.rec.now.trip.0 ≡ Some c.trip_id.result.now) c.context.view_is c.trip_id.ensures.value) in
    let named : IsNamed schedule one = record {
      trip = rw id (subst (λ (lent : Schedule). position (bytes_eq c.trip_id.result.now) lent.table.trips ≡ Some c.args.rec.now.trip.0) c.context.view_is c.trip_id.ensures.found);
      some_id = rw id c.trip_id.ensures.shortest;
      day = c.message.ensures.day;
      date = c.message.ensures.date;
      moment = c.args.rec.now.at.secs_in;
    } in
    anyway c.entity_bytes.result (SaysItself schedule one) (says_itself schedule one run named c.requires.on_day c.requires.runs
    (subst (λ (lent : Schedule). Says (run_of lent.table c.args.dated.now) (shortest (run_of lent.table c.args.dated.now) one.reading) one.reading) c.context.view_is c.in_ok-entity.ensures.says))

pub message-requires : goal.message-requires
message-requires c =
    subst (λ (lent : Schedule). fits_trip (run_of lent.table c.args.dated.now) c.args.rec.now.reading ≡ true) (sym c.context.view_is) c.requires.fits
