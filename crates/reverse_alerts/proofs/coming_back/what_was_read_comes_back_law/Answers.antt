-- They are the lemmas, over a timetable that is sound.
use Rattle.std.proofs.Common.{subst}
use Rattle.timetable.specs.Sound.{IsSound}
use Rattle.journey_model.specs.Schedules.{Schedule}
use Rattle.reverse_alerts.proofs.ComesBack.{comes_back}
use Rattle.reverse_alerts.proofs.WholeAgain.{whole_again}
use Rattle.reverse_alerts.proofs.coming_back.what_was_read_comes_back_law.Goals as goal

pub returns-clause-one : goal.returns-clause-one
returns-clause-one c = λ tree one unknown e. comes_back c.args.context.now tree one unknown (subst (λ (lent : Schedule). IsSound lent.table) c.context.view_is c.soundness_law.ensures) e

pub returns-clause-whole : goal.returns-clause-whole
returns-clause-whole c = whole_again c.args.context.now (subst (λ (lent : Schedule). IsSound lent.table) c.context.view_is c.soundness_law.ensures)
