-- The lemmas of that, as bytes mean one feed.
use Rattle.gateway_durable.proofs.ReplayLemmas.{never_refused, replays_joined, replays_one}
use Rattle.gateway_durable.proofs.laws.kept_bodies_replay_law.Goals as goal

pub returns-clause-one : goal.returns-clause-one
returns-clause-one c = replays_one c.the_feed_is_one_law.ensures

pub returns-clause-joined : goal.returns-clause-joined
returns-clause-joined c = replays_joined

pub returns-clause-never_refused : goal.returns-clause-never_refused
returns-clause-never_refused c = never_refused c.the_feed_is_one_law.ensures
