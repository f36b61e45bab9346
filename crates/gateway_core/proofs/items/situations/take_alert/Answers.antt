-- What is kept where the situation counts.
use Rattle.std.proofs.Common.{◌∙◌, Bool, Option, Some, ap, sym}
use Rattle.gateway_core.specs.SituationSteps.{after_situation, alerts_after}
use Rattle.gateway_core.proofs.items.situations.take_alert.Goals as goal

pub returns-in_ok-put_alert-in-Some-true-clause-entries : goal.returns-in_ok-put_alert-in-Some-true-clause-entries
returns-in_ok-put_alert-in-Some-true-clause-entries c = λ table is.
    c.in_ok-put_alert-in-Some-true.ensures.entries table is
    ∙ ap (λ (verdict : Option Bool). after_situation table (alerts_after c.args.draft.now) c.args.situation.now verdict) (ap Some (sym c.in-Some-true.field-0-test) ∙ c.in-Some-true.ensures)
