-- Each journey fits the schedule.
use Rattle.journey_model.specs.Schedules.{FitsSchedule}
use Rattle.show_command.proofs.LineLemmas.{at_place}
use Rattle.show_command.proofs.lines.add_journeys.Goals as goal

pub add_journey-requires : goal.add_journey-requires
add_journey-requires c =
    at_place (λ one. FitsSchedule c.args.context.now one.trip.0 one.day one.reading) c.args.journeys.now c.loop-one.one-index c.one-item.result
    c.requires c.loop-one-test.true c.one-item.is
