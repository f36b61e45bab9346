use Rattle.std.proofs.Common.{◌≡◌, sym, refl, true, false}
use Rattle.timetable.specs.Ids.{has_id}
use Rattle.timetable.proofs.IdLemmas.{id-of-place, id-after}
use Rattle.timetable.proofs.ids.Ids.number_of.Goals as goal

pub returns-in-Some-clause-ids : goal.returns-in-Some-clause-ids
returns-in-Some-clause-ids c = rw (← c.in-Some.ensures.found) refl

pub returns-in-Some-clause-number : goal.returns-in-Some-clause-number
returns-in-Some-clause-number c =
    id-of-place c.args.self.now c.in-Some.number c.args.id.now (sym c.in-Some.ensures.place)

pub returns-in_ok-add-in-None-clause-ids : goal.returns-in_ok-add-in-None-clause-ids
returns-in_ok-add-in-None-clause-ids c =
    let lacks : has_id c.args.id.now c.args.self.now ≡ false = sym c.in-None.ensures.found in
    let added : c.in_ok-add-in-None.field-0 ≡ true =
    rw (c.as_bytes.ensures.value, c.requires.id, lacks) at c.in_ok-add-in-None.ensures.added in
    rw (c.in_ok-add-in-None.ensures.ids, added, lacks, c.as_bytes.ensures.value) refl

pub returns-in_ok-add-in-None-clause-number : goal.returns-in_ok-add-in-None-clause-number
returns-in_ok-add-in-None-clause-number c =
    let lacks : has_id c.args.id.now c.args.self.now ≡ false = sym c.in-None.ensures.found in
    let added : c.in_ok-add-in-None.field-0 ≡ true =
    rw (c.as_bytes.ensures.value, c.requires.id, lacks) at c.in_ok-add-in-None.ensures.added in
    rw (c.in_ok-add-in-None.ensures.ids, added, c.as_bytes.ensures.value, c.len-number.ensures.value)
    (id-after c.args.self.now c.args.id.now)
