use Rattle.std.proofs.Common.{◌∙◌, ◌<◌, sym, arith, ap}
use Rattle.stop_schedule.specs.Forms.{small}
use Rattle.timetable.specs.Limits.{number_limit}
use Rattle.stop_schedule.proofs.FormLemmas.{too-great}
use Rattle.stop_schedule.proofs.forms.number.Goals as goal

pub returns-then-value : goal.returns-then-value
returns-then-value c =
    let over : number_limit < c.loop-rest.value = omega arith in
    sym (ap small c.loop-rest.invariant ∙ too-great c.loop-rest.value c.loop-rest.rest.now over)
