use Rattle.stop_schedule.proofs.TextLemmas.{no-text, a-text}
use Rattle.stop_schedule.proofs.sheet.text_of.Goals as goal

pub returns-in-Err : goal.returns-in-Err
returns-in-Err c = record { cases = no-text c.args.field.now c.in-Err.ensures.cases.0 }

pub returns-in-Ok : goal.returns-in-Ok
returns-in-Ok c = record { cases = (c.in-Ok.ensures.cases.0, a-text c.args.field.now c.in-Ok.ensures.cases.1) }
