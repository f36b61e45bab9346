-- The three pieces of a journey.
use Rattle.sample_maker.specs.Deliveries.{calls, closing_text, journey_text, opening_text}
use Rattle.sample_maker.specs.Listed.{listed}
use Rattle.sample_maker.proofs.ListLemmas.{three_pieces}
use Rattle.sample_maker.proofs.journeys.put_journey.Goals as goal

pub returns-clause-added : goal.returns-clause-added
unfolding journey_text
returns-clause-added c =
    three_pieces c.args.out.now opening_text (listed (calls c.args.trip c.args.held c.args.stops)) (closing_text c.args.trip) _ _ _
    c.in_ok-extend.ensures.added c.in_ok-after.ensures.added c.in_ok-put_closing.ensures
