-- The tree of a delivery is plain: its texts are UTF-8, its numbers are of 64 bits, and the names of members rise.
use Rattle.std.proofs.Common.{◌≡◌, ℕ, ◌+◌, ◌<◌, ◌^◌, List, [], ◌∷◌, length, map, codes, true, nat_lt, IsUtf8, All, Option, Some, None, IfSome, unwrap_or, arith, ltb-true, refl, sym, subst, ℤ}
use Rattle.std.specs.List.{list_all}
use Rattle.std.proofs.lemmas.Bool.{and_parts}
use Rattle.std.proofs.lemmas.List.Elements.{All-head, All-tail}
use Rattle.json.proofs.Printed.Utf8.{are_ascii, IsUtf8-are_ascii}
use Rattle.gw_base.specs.Moments.{IsMoment}
use Rattle.timetable.specs.Planned.{planned}
use Rattle.timetable.specs.Sound.{IsSound}
use Rattle.timetable.specs.Stops.{is_timed}
use Rattle.timetable.specs.declared.stop_row.StopRow.{StopRow}
use Rattle.journey_model.specs.Ids.{id_of}
use Rattle.journey_model.specs.Places.{are_placed, is_placed}
use Rattle.journey_model.specs.Readings.{are_near, is_near}
use Rattle.journey_model.specs.Runs.{Run}
use Rattle.journey_model.specs.Schedules.{Schedule}
use Rattle.journey_model.specs.declared.readings.DatedReading.{DatedReading}
use Rattle.journey_model.specs.declared.readings.StopReading.{StopReading}
use Rattle.journey_model.specs.declared.readings.StopReading.TheVariants.{Absent, Skipped, Timed}
use Rattle.journey_model.proofs.NearLemmas.{planned_moments, are_moments}
use Rattle.siri_calls.specs.Written.DeliveryTree.{call_tree, call_trees_from, called_at, delivery_tree, frame_tree, journey_of_run, journey_on, journey_tree, service_tree, stop_readings, timetable_tree}
use Rattle.siri_json.specs.Trees.{items_of}
use Rattle.siri_calls.specs.Written.Sayable.{IsSayable}
use Rattle.journey_model.proofs.IdLemmas.{id-at, IsUtf8-id}
use Rattle.service_day.proofs.MomentTextLemmas.{IsUtf8-dashed_text, IsUtf8-moment_text}
use Rattle.siri_calls.proofs.Written.SaidAgainRuns.{IsSoundRun, sound-run}
use Rattle.siri_json.proofs.TreesReadAgain.{ArePlain, IsPlain}
use Rattle.siri_calls.proofs.Written.WrittenTimes.{called_known, fits_near, fits_placed}

-- a name of ASCII letters
name : (letters : List ℕ) → are_ascii letters ≡ true → IsUtf8 letters
name letters h = IsUtf8-are_ascii letters h

-- the call at a stop
plain-call : (run : Run) (order : ℕ) (row : StopRow) (reading : StopReading) → IsSoundRun run → order < 2 ^ 64 → IsUtf8 (id_of run.ids (called_at row reading)) → is_timed row ≡ true
    → is_near (planned run.start row) reading ≡ true → IsPlain 1 (call_tree run order row reading)
plain-call run order row Absent sound small id timed near =
    let plan = planned_moments run.start row sound.start timed in (
      refl,
      name (codes "AimedArrivalTime") refl,
      IsUtf8-moment_text (planned run.start row).0 plan.0,
      (
        refl,
        name (codes "AimedDepartureTime") refl,
        IsUtf8-moment_text (planned run.start row).1 plan.1,
        (
          refl,
          name (codes "Order") refl,
          small,
          (refl, name (codes "StopPointRef") refl, id, tt),
        ),
      ),
    )
plain-call run order row Skipped sound small id timed near =
    let plan = planned_moments run.start row sound.start timed in (
      refl,
      name (codes "AimedArrivalTime") refl,
      IsUtf8-moment_text (planned run.start row).0 plan.0,
      (
        refl,
        name (codes "AimedDepartureTime") refl,
        IsUtf8-moment_text (planned run.start row).1 plan.1,
        (
          refl,
          name (codes "Cancellation") refl,
          tt,
          (
            refl,
            name (codes "Order") refl,
            small,
            (refl, name (codes "StopPointRef") refl, id, tt),
          ),
        ),
      ),
    )
plain-call run order row (Timed arrival departure place) sound small id timed near =
    let plan = planned_moments run.start row sound.start timed in
    let said = are_moments run.start row (Timed arrival departure place) sound.start timed near in (
      refl,
      name (codes "AimedArrivalTime") refl,
      IsUtf8-moment_text (planned run.start row).0 plan.0,
      (
        refl,
        name (codes "AimedDepartureTime") refl,
        IsUtf8-moment_text (planned run.start row).1 plan.1,
        (
          refl,
          name (codes "ExpectedArrivalTime") refl,
          IsUtf8-moment_text arrival said.0,
          (
            refl,
            name (codes "ExpectedDepartureTime") refl,
            IsUtf8-moment_text departure said.1,
            (
              refl,
              name (codes "Order") refl,
              small,
              (refl, name (codes "StopPointRef") refl, id, tt),
            ),
          ),
        ),
      ),
    )

-- the calls at stops from one on
plain-calls : (run : Run) (order : ℕ) (rows : List StopRow) (readings : List StopReading) → IsSoundRun run → order + length rows < 2 ^ 64
    → list_all (λ row. nat_lt row.stop.0 (length run.ids)) rows ≡ true → list_all is_timed rows ≡ true → are_near run.start rows readings ≡ true → are_placed run rows readings ≡ true
    → ArePlain 1 (items_of (call_trees_from run order rows readings))
plain-calls run order [] readings sound small known timed near placed = tt
plain-calls run order (row ∷ rows) [] sound small known timed near placed = tt
plain-calls run order (row ∷ rows) (reading ∷ readings) sound small known timed near placed =
    let knowns = and_parts (nat_lt row.stop.0 (length run.ids)) _ known in
    let times = and_parts (is_timed row) (list_all is_timed rows) timed in
    let nears = and_parts (is_near (planned run.start row) reading) (are_near run.start rows readings) near in
    let places = and_parts (is_placed run row reading) (are_placed run rows readings) placed in
    let called = called_known run row reading knowns.0 places.0 in
    let id = IsUtf8-id (id_of run.ids (called_at row reading)) (id-at run.ids (called_at row reading) sound.ids (ltb-true _ _ called)) in (
      plain-call run order row reading sound (omega arith) id times.0 nears.0,
      plain-calls run (order + 1) rows readings sound (omega arith) knowns.1 times.1 nears.1 places.1,
    )

-- a journey
plain-journey : (schedule : Schedule) (recorded : ℤ) (one : DatedReading) → IsSound schedule.table → (h : IsSayable schedule one) → IsMoment recorded
    → IsPlain 4 (journey_of_run schedule recorded one h.servable.run)
plain-journey schedule recorded one sound h at =
    let run = h.servable.run in
    let sound-one = sound-run schedule one sound h in
    let calls = plain-calls run 1 run.stops (stop_readings run one.reading) sound-one (omega (arith, sound-one.few)) sound-one.known sound-one.timed (fits_near run one.reading h.servable.fits) (fits_placed run one.reading h.servable.fits) in
    let trip = IsUtf8-id _ (id-at schedule.table.trips one.trip.0 sound.trips h.servable.trip_in) in
    let line = IsUtf8-id _ (sound.route_of one.trip.0 h.servable.trip_in) in (
      refl,
      name (codes "Cancellation") refl,
      tt,
      (
        refl,
        name (codes "EstimatedCalls") refl,
        (refl, name (codes "EstimatedCall") refl, calls, tt),
        (
          refl,
          name (codes "FramedVehicleJourneyRef") refl,
          (
            refl,
            name (codes "DataFrameRef") refl,
            IsUtf8-dashed_text one.day h.is_day,
            (refl, name (codes "DatedVehicleJourneyRef") refl, trip, tt),
          ),
          (
            refl,
            name (codes "IsCompleteStopSequence") refl,
            tt,
            (
              refl,
              name (codes "LineRef") refl,
              line,
              (refl, name (codes "RecordedAtTime") refl, IsUtf8-moment_text recorded at, tt),
            ),
          ),
        ),
      ),
    )

pub recorded-moment : (recorded : Option ℤ) (moment : ℤ) → IfSome recorded IsMoment → IsMoment moment → IsMoment (unwrap_or recorded moment)
recorded-moment None moment h at = at
recorded-moment (Some secs) moment h at = h

plain-journeys : (schedule : Schedule) (moment : ℤ) (journeys : List DatedReading) → IsSound schedule.table → IsMoment moment → All (IsSayable schedule) journeys
    → ArePlain 4 (items_of (map (journey_tree schedule moment) journeys))
plain-journeys schedule moment [] sound at all = tt
plain-journeys schedule moment (one ∷ others) sound at all =
    let h = All-head (IsSayable schedule) one others all in
    let first = plain-journey schedule (unwrap_or one.recorded moment) one sound h (recorded-moment one.recorded moment h.is_recorded at) in (
      subst (λ found. IsPlain 4 (journey_on schedule moment one found)) (sym h.servable.on_day) first,
      plain-journeys schedule moment others sound at (All-tail (IsSayable schedule) one others all),
    )

-- the tree of a delivery
pub plain-delivery : (schedule : Schedule) (moment : ℤ) (journeys : List DatedReading) → IsSound schedule.table → IsMoment moment → All (IsSayable schedule) journeys
    → IsPlain 12 (delivery_tree schedule moment journeys)
plain-delivery schedule moment journeys sound at all =
    let stamp = IsUtf8-moment_text moment at in
    let frame : IsPlain 6 (frame_tree schedule moment journeys) = (refl, name (codes "EstimatedVehicleJourney") refl, plain-journeys schedule moment journeys sound at all, (refl, name (codes "RecordedAtTime") refl, stamp, tt)) in
    let timetable : IsPlain 8 (timetable_tree schedule moment journeys) = (
      refl,
      name (codes "EstimatedJourneyVersionFrame") refl,
      (frame, tt),
      (refl, name (codes "ResponseTimestamp") refl, stamp, (refl, name (codes "version") refl, name (codes "2.0") refl, tt)),
    ) in
    let service : IsPlain 10 (service_tree schedule moment journeys) = (refl, name (codes "EstimatedTimetableDelivery") refl, (timetable, tt), (refl, name (codes "ResponseTimestamp") refl, stamp, tt)) in
    (refl, name (codes "Siri") refl, (refl, name (codes "ServiceDelivery") refl, service, tt), tt)
