-- What is recorded can be served.
use Rattle.std.proofs.Common.{refl}
use Rattle.journey_model.specs.declared.readings.JourneyRecord.{JourneyRecord}
use Rattle.siri_calls.specs.Judged as spec
use Rattle.siri_calls.specs.Seen.{calls_of, header_of}
use Rattle.siri_calls.proofs.ServableLemmas.{servable}
use Rattle.siri_calls.proofs.judging.judged.Goals as goal

pub returns-clause-servable : goal.returns-clause-servable
returns-clause-servable c =
    let head = c.args.head.now in
    let all = calls_of c.args.calls.now in
    let found : JourneyRecord = record { trip = c.in_ok-trip.trip; day = head.day; at = head.at; reading = c.in_ok-reading.reading } in
    servable c.args.context.now (header_of head) all found (spec.extras all) (rw (← c.in_ok-trip.ensures.value, c.in_ok-reading.ensures.found) refl)
