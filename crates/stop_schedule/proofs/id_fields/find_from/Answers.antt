use Rattle.std.proofs.Common.{sym}
use Rattle.std.proofs.lemmas.Option.{slice_get_within}
use Rattle.stop_schedule.specs.Sheet.{nth}
use Rattle.timetable.proofs.IdLemmas.{has-at, place-of-id-at}
use Rattle.stop_schedule.proofs.id_fields.find_from.Goals as goal

pub returns-then-is_at-clause-place : goal.returns-then-is_at-clause-place
returns-then-is_at-clause-place c = λ _.
    sym (place-of-id-at c.args.ids.now c.args.number (nth c.args.column c.args.sheet.now.row) c.len.ensures.ids
    (rw c.field.ensures.value at (c.is_at.ensures c.if-is_at.true)))

pub returns-then-is_at-clause-found : goal.returns-then-is_at-clause-found
returns-then-is_at-clause-found c = λ _.
    sym (has-at c.args.ids.now c.args.number (nth c.args.column c.args.sheet.now.row)
    (rw c.field.ensures.value at (c.is_at.ensures c.if-is_at.true)))

pub returns-then-is_at-clause-within : goal.returns-then-is_at-clause-within
returns-then-is_at-clause-within c =
    slice_get_within c.args.ids.now c.args.number (nth c.args.column c.args.sheet.now.row)
    (rw c.field.ensures.value at (c.is_at.ensures c.if-is_at.true))
