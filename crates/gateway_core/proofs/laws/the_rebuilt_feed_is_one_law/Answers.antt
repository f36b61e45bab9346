use Rattle.gateway_core.proofs.OneLemmas.{one_feed, one_rebuilt}
use Rattle.gateway_core.proofs.laws.the_rebuilt_feed_is_one_law.Goals as goal

pub returns-clause-one : goal.returns-clause-one
returns-clause-one c = one_rebuilt

pub returns-clause-alike : goal.returns-clause-alike
returns-clause-alike c = one_feed
