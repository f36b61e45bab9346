-- One place more, with a trip that is carried or without.
use Rattle.std.proofs.Common.{◌≡◌, ◌∙◌, false, true, get_or, map, sym}
use Rattle.stop_schedule.specs.TripStops.{stops_kept}
use Rattle.stop_schedule.specs.Carrying.{Lists}
use Rattle.stop_schedule.proofs.CarryingLemmas.{adds_candidate, carries_one, step_carried, step_other}
use Rattle.stop_schedule.proofs.assembling.carried_trips.Goals as goal
use Rattle.stop_schedule.proofs.assembling.carried_trips.Goals.{then-is_carried_at+in_ok-put_stops_at+in_ok-add_trip, else-is_carried_at}

pub loop-place-preserved : goal.loop-place-preserved
loop-place-preserved c =
    let place = c.loop-place.place in
    let lists : Lists = record {
      ids = c.args.trips.now.ids;
      routes = c.args.trips.now.routes.items;
      services = c.args.trips.now.services.items;
      carried = c.args.carried.now;
      by_trip = map stops_kept c.args.by_trip.now;
    } in
    elim c.if-is_carried_at.branch [
      | then-is_carried_at+in_ok-put_stops_at+in_ok-add_trip w ↦
          let flag : get_or lists.carried place false ≡ true = sym c.is_carried_at.ensures ∙ w.if-is_carried_at.true in
          let adds = adds_candidate lists place c.loop-place.all w.add_trip.new.all _ _ _
          (rw w.as_slice.ensures.value at w.number_at-route.ensures)
          (rw w.as_slice-then-is_carried_at.ensures.value at w.number_at-service.ensures)
          (w.as_slice-then-is_carried_at-2.ensures.value ∙ w.in_ok-put_stops_at.ensures) w.in_ok-add_trip.ensures in
          rw w.all-is (step_carried lists place _ flag (carries_one _ _ _ _ c.loop-place.invariant adds))
      | else-is_carried_at w ↦
          let flag : get_or lists.carried place false ≡ false =
          sym c.is_carried_at.ensures ∙ w.if-is_carried_at.false in
          rw w.all-is (step_other lists place _ flag c.loop-place.invariant)
    ]
