-- One call more.
use Rattle.std.proofs.Common.{◌≡◌, ◌∙◌, ◌+◌, ◌<◌, ◌++◌, true, nat_lt, length, get_or, ap, arith}
use Rattle.std.proofs.lemmas.Bool.Decides.{nat_tests}
use Rattle.std.proofs.lemmas.Option.{slice_get-get_or}
use Rattle.timetable.specs.declared.stop_row.StopRow.{StopRow}
use Rattle.siri_calls.specs.Written.DeliveryTree.{stop_readings}
use Rattle.siri_calls.specs.Written.DeliveryTexts.{call_text}
use Rattle.journey_model.specs.TripRuns.{run_over}
use Rattle.siri_calls.proofs.Written.WrittenLemmas.{calls_on, one_more}
use Rattle.siri_calls.proofs.Written.WrittenTimes.{fits_near, fits_placed, near_at, placed_at}
use Rattle.siri_calls.proofs.writing.calls.put_calls.Goals as goal

no_row : StopRow
no_row = record { sequence = 0; stop = record { 0 = 0 }; arrival = 0; departure = 0 }

pub put_call-requires-clause-near : goal.put_call-requires-clause-near
unfolding no_row
put_call-requires-clause-near c =
    let run = run_over c.args.run.now in
    let stops = c.args.run.now.dated.stops.now in
    let position = c.loop-position.position in
    let within : position < length stops = omega arith in
    near_at run.start stops (stop_readings run c.args.reading.now) position (get_or stops position no_row) c.reading_at-reading.result
    (fits_near run c.args.reading.now c.requires.fits) (slice_get-get_or stops position no_row within) c.reading_at-reading.ensures

pub put_call-requires-clause-placed : goal.put_call-requires-clause-placed
unfolding no_row
put_call-requires-clause-placed c =
    let run = run_over c.args.run.now in
    let stops = c.args.run.now.dated.stops.now in
    let position = c.loop-position.position in
    let within : position < length stops = omega arith in
    placed_at run stops (stop_readings run c.args.reading.now) position (get_or stops position no_row) c.reading_at-reading.result
    (fits_placed run c.args.reading.now c.requires.fits) (slice_get-get_or stops position no_row within) c.reading_at-reading.ensures

pub loop-position-preserved : goal.loop-position-preserved
unfolding no_row
loop-position-preserved c =
    let run = run_over c.args.run.now in
    let stops = c.args.run.now.dated.stops.now in
    let position = c.loop-position.position in
    let row = get_or stops position no_row in
    let within : position < length stops = omega arith in
    let later : nat_lt 0 (position + 1) ≡ true = grind (arith, nat_tests) in
    let is = calls_on run position row c.reading_at-reading.result (stop_readings run c.args.reading.now) (nat_lt 0 position) (position + 1)
    (slice_get-get_or stops position no_row within) c.reading_at-reading.ensures in
    let added = c.in_ok-put_call.ensures ∙ ap (λ l. l ++ call_text run (position + 1) row c.reading_at-reading.result) c.in_ok-put_comma.ensures in
    rw later (one_more _ c.loop-position.out c.put_call.new.out _ _ _ _ is added c.loop-position.invariant)
