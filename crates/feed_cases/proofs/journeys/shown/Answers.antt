-- What is read of a feed can be served, and so fits the schedule.
use Rattle.show_command.proofs.LineLemmas.{servable_fits}
use Rattle.feed_cases.proofs.journeys.shown.Goals as goal

pub show_lines-requires : goal.show_lines-requires
show_lines-requires c = servable_fits c.args.context.now c.in_ok-reading.reading.journeys c.in_ok-reading.ensures.servable
