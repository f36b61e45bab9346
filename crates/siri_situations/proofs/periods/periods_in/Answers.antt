use Rattle.std.proofs.Common.{◌∙◌, sym}
use Rattle.siri_situations.proofs.PeriodLemmas.{periods_by}
use Rattle.siri_situations.proofs.periods.periods_in.Goals as goal

pub returns-then-not-starts_in_form-clause-fault : goal.returns-then-not-starts_in_form-clause-fault
returns-then-not-starts_in_form-clause-fault c =
    periods_by c.args.zone.now c.args.trees.now _ (sym c.if-not-starts_in_form.true ∙ c.starts_in_form.ensures)

pub returns-in-Ok-clause-found : goal.returns-in-Ok-clause-found
returns-in-Ok-clause-found c =
    periods_by c.args.zone.now c.args.trees.now _ (sym c.if-not-starts_in_form.false ∙ c.starts_in_form.ensures) ∙ c.in-Ok.ensures.found

pub returns-in-Err-clause-fault : goal.returns-in-Err-clause-fault
returns-in-Err-clause-fault c =
    rw (periods_by c.args.zone.now c.args.trees.now _ (sym c.if-not-starts_in_form.false ∙ c.starts_in_form.ensures)) c.in-Err.ensures.fault
