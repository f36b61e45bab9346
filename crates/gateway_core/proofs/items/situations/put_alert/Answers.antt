-- What is kept then has the situation's entry at its number.
use Rattle.std.proofs.Common.{◌∙◌, ap, map}
use Rattle.std.proofs.lemmas.Result.{on_ok_weaker}
use Rattle.std.specs.Cmp.Lexicographic.{slice_cmp}
use Rattle.std.specs.Ordering.{nat_cmp}
use Rattle.feed_index.specs.Drafts.{after}
use Rattle.gateway_core.specs.SituationSteps.{alerts_after}
use Rattle.gateway_core.specs.Standing.{situation_seen}
use Rattle.gateway_core.proofs.SeenLemmas.{situation_put}
use Rattle.gateway_core.proofs.SituationLemmas.{alert_put}
use Rattle.gateway_core.proofs.items.situations.put_alert.Goals as goal

pub returns-clause-entries : goal.returns-clause-entries
returns-clause-entries c = λ table is.
    on_ok_weaker c.put.result (λ put. ap (map situation_seen) put
    ∙ situation_put (after (slice_cmp nat_cmp) c.args.draft.now) _
    ∙ alert_put table (alerts_after c.args.draft.now) c.args.situation.now c.in_ok-number.number c.args.alert (c.in_ok-number.ensures.same ∙ c.as_str.ensures.same) is)
    c.put.ensures.put
