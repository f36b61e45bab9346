use Rattle.std.proofs.Common.{◌≡◌, ◌∙◌, ◌<◌, ◌≤◌, true, false, map, length, nat_le, sym, arith}
use Rattle.std.specs.Str.{is_utf8}
use Rattle.std.proofs.lemmas.Bool.{leb-true}
use Rattle.std.proofs.lemmas.Bool.Decides.{nat_tests}
use Rattle.timetable.specs.Limits.{stop_limit}
use Rattle.stop_schedule.specs.TripStops.{stops_kept}
use Rattle.stop_schedule.specs.Holding.{HoldsStops}
use Rattle.timetable.specs.Ids.{has_id}
use Rattle.stop_schedule.specs.Sheet.{nth}
use Rattle.stop_schedule.specs.StopTimes.{stops_in}
use Rattle.timetable.proofs.IdLemmas.{and-left, and-right}
use Rattle.stop_schedule.proofs.StopStep.{unknown-trip, too-many, unknown-stop, stands-in}
use Rattle.stop_schedule.proofs.stop_time_rows.StopTimeRowsTakesRows.take.Goals as goal

pub returns-in_default-clause-takes : goal.returns-in_default-clause-takes
returns-in_default-clause-takes c = λ start before kept counted.
    let row = c.args.sheet.now.row in
    let text : is_utf8 (nth 0 row) ≡ true = and-left (is_utf8 (nth 0 row)) _ c.requires.fits.texts in
    rw counted (unknown-trip c.args.self.now.trips.now c.args.self.now.stops.now before row kept.2.known
    (sym (c.in_default.ensures.found text)))

pub returns-then-is_full-clause-takes : goal.returns-then-is_full-clause-takes
returns-then-is_full-clause-takes c = λ start before kept counted.
    let row = c.args.sheet.now.row in
    let trips = c.args.self.now.trips.now in
    let stops = c.args.self.now.stops.now in
    let by_trip = map stops_kept c.begin_trip-self.new.by_trip.items in
    let holds : HoldsStops trips stops by_trip before = rw c.begin_trip-self.ensures kept.2 in
    let held = stops_in stops before (nth 0 row) in
    let full = (rw c.as_slice.ensures.value at c.is_full.ensures) held
    (stands-in trips stops by_trip before holds c.in-Some.trip (nth 0 row) c.in-Some.ensures.at) in
    let many : stop_limit ≤ length held = leb-true stop_limit (length held) (sym full ∙ c.if-is_full.true) in
    rw counted (too-many trips stops before row many)

pub returns-in_default-find_in-clause-takes : goal.returns-in_default-find_in-clause-takes
returns-in_default-find_in-clause-takes c = λ start before kept counted.
    let row = c.args.sheet.now.row in
    let trips = c.args.self.now.trips.now in
    let stops = c.args.self.now.stops.now in
    let by_trip = map stops_kept c.begin_trip-self.new.by_trip.items in
    let holds : HoldsStops trips stops by_trip before = rw c.begin_trip-self.ensures kept.2 in
    let held = stops_in stops before (nth 0 row) in
    let full = (rw c.as_slice.ensures.value at c.is_full.ensures) held
    (stands-in trips stops by_trip before holds c.in-Some.trip (nth 0 row) c.in-Some.ensures.at) in
    let not_full : nat_le stop_limit (length held) ≡ false = sym full ∙ c.if-is_full.false in
    let few : length held < stop_limit = grind (arith, nat_tests, not_full) in
    let text : is_utf8 (nth 0 row) ≡ true = and-left (is_utf8 (nth 0 row)) _ c.requires.fits.texts in
    let of_trip : has_id (nth 0 row) trips ≡ true = sym (c.in-Some.ensures.found text) in
    let stop_text : is_utf8 (nth 2 row) ≡ true =
    and-left (is_utf8 (nth 2 row)) _
    (and-right (is_utf8 (nth 1 row)) _ (and-right (is_utf8 (nth 0 row)) _ c.requires.fits.texts)) in
    rw counted (unknown-stop trips stops before row few of_trip (sym (c.in_default-find_in.ensures.found stop_text)))
