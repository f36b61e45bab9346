use Rattle.std.proofs.Common.{◌≡◌, ◌∙◌, ◌&&◌, true, false, not, sym}
use Rattle.std.specs.Str.{is_utf8}
use Rattle.timetable.specs.Ids.{has_id, is_id}
use Rattle.stop_schedule.specs.Sheet.{nth}
use Rattle.timetable.proofs.IdLemmas.{and-left, and-right, id-of-place, not-false}
use Rattle.stop_schedule.proofs.TripStep.{trip-held, no-trip-fault}
use Rattle.stop_schedule.proofs.trip_rows.TripRowsTakesRows.take.Goals as goal

pub returns-clause-takes : goal.returns-clause-takes
returns-clause-takes c = λ start before kept counted.
    let holds = kept.1 in
    let row = c.args.sheet.now.row in
    let routes = c.args.self.now.known_routes.now in
    let trips = c.args.self.now.trips in
    let services = c.args.self.now.services in
    let on_route : is_utf8 (nth 1 row) ≡ true =
    and-left (is_utf8 (nth 1 row)) _ (and-right (is_utf8 (nth 0 row)) _ c.requires.fits.texts) in
    let route_at = id-of-place routes c.in-Some.route (nth 1 row) (sym (c.in-Some.ensures.place on_route)) in
    let added : (is_id (nth 0 row) && not (has_id (nth 0 row) trips)) ≡ true =
    rw (← c.field.ensures.value) (sym c.in_ok-added.ensures.added ∙ c.if-not-added.false) in
    let new : has_id (nth 0 row) trips ≡ false =
    not-false (has_id (nth 0 row) trips) (and-right (is_id (nth 0 row)) _ added) in
    let service_is = c.in-Some-text.ensures.cases.0 in
    let all = rw (c.if-not-added.false, c.field.ensures.value) at c.in_ok-added.ensures.ids in
    let grown = rw service_is at c.in_ok-service.ensures.ids in
    let on_service = rw service_is at c.in_ok-service.ensures.number in (
      no-trip-fault routes trips before row (sym (c.in-Some.ensures.found on_route)) holds.ids new,
      (
        kept.0,
        trip-held routes services trips c.number_from.new.self c.add.new.self c.args.self.now.trip_routes.items
            c.args.self.now.trip_services.items c.push.new.self.items c.push-2.new.self.items
            c.in-Some.route c.in_ok-service.service before row holds route_at grown on_service all
            c.in_ok-push.ensures.items c.in_ok-push-2.ensures.items,
      ),
    )
