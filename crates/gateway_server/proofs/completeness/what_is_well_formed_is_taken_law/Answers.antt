-- The lemma of that, where the causes are that counts rose.
use Rattle.std.specs.Prelude.{false}
use Rattle.gw_base.specs.Count.{Rose}
use Rattle.gateway_server.proofs.CompletenessLemmas.{completes}
use Rattle.gateway_server.proofs.completeness.what_is_well_formed_is_taken_law.Goals as goal

pub returns-clause-taken : goal.returns-clause-taken
returns-clause-taken c = λ before now setting arrivals entry lawful.
    completes (Rose before now) ⊥ (λ body. false) setting arrivals entry lawful c.the_feed_is_one_law.ensures

pub returns-clause-kept : goal.returns-clause-kept
returns-clause-kept c = λ before now disk_before disk_now is_full setting arrivals entry lawful.
    completes (Rose before now) (Rose disk_before disk_now) is_full setting arrivals entry lawful c.the_feed_is_one_law.ensures
