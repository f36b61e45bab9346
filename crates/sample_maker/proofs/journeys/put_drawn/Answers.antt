-- A call that was drawn is one, and otherwise none comes on.
use Rattle.std.proofs.Common.{refl}
use Rattle.sample_maker.specs.Deliveries.{calls_at}
use Rattle.sample_maker.specs.Listed.{has_some}
use Rattle.sample_maker.proofs.journeys.put_drawn.Goals as goal

pub returns-in_ok-put_cancelled-in-Cancelled-clause-any : goal.returns-in_ok-put_cancelled-in-Cancelled-clause-any
unfolding calls_at has_some
returns-in_ok-put_cancelled-in-Cancelled-clause-any c = rw c.in-Cancelled.is refl

pub returns-in-Unsaid-clause-any : goal.returns-in-Unsaid-clause-any
unfolding calls_at has_some
returns-in-Unsaid-clause-any c = rw c.in-Unsaid.is refl

pub returns-in_ok-put_expected-in-Expected-clause-any : goal.returns-in_ok-put_expected-in-Expected-clause-any
unfolding calls_at has_some
returns-in_ok-put_expected-in-Expected-clause-any c = rw c.in-Expected.is refl
