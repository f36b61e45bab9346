-- The updates are the shortest ones.
use Rattle.latest_store.proofs.preparing.message.Goals as goal

pub returns-clause-says : goal.returns-clause-says
returns-clause-says c = rw c.in_ok-updates.ensures.shortest at c.in_ok-updates.ensures.says
