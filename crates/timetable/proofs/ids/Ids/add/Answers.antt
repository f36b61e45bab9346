use Rattle.std.proofs.Common.{◌∙◌, sym, ap, not, arith}
use Rattle.timetable.specs.Ids.{has_id}
use Rattle.timetable.proofs.IdLemmas.{no-text-no-id, id-from-text, lacks-text, are_ids-insert, one-more}
use Rattle.timetable.proofs.ids.Ids.add.Goals as goal

pub returns-in_default-clause-added : goal.returns-in_default-clause-added
returns-in_default-clause-added c =
    no-text-no-id c.args.id.now (not (has_id c.args.id.now c.args.self.now)) c.in_default.ensures.cases.0

pub invariant_of-self-2 : goal.invariant_of-self-2
invariant_of-self-2 c =
    let sound = id-from-text c.args.id.now (sym c.if-not-has_id_len.ensures) c.in-Ok.ensures.cases.1 in
    let same = c.in_ok-from_str.ensures.ok ∙ c.in-Ok.ensures.cases.0 in (
      rw c.in_ok-added.ensures.keys
          (are_ids-insert c.in_ok-from_str.field-0 c.self.inside.ids.keys c.self.invariant.0 (rw same sound)),
      one-more _ _ c.in_ok-added.added c.in_ok-added.ensures.len (omega arith),
    )

pub returns-clause-added : goal.returns-clause-added
returns-clause-added c =
    let sound = id-from-text c.args.id.now (sym c.if-not-has_id_len.ensures) c.in-Ok.ensures.cases.1 in
    let same = c.in_ok-from_str.ensures.ok ∙ c.in-Ok.ensures.cases.0 in
    rw (sound, ← c.self.view_is)
    (c.in_ok-added.ensures.added
    ∙ ap not (lacks-text c.in_ok-from_str.field-0 c.self.inside.ids.keys c.args.id.now same))
