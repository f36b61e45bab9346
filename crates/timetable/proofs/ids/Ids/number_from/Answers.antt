use Rattle.std.proofs.Common.{◌≡◌, true, refl}
use Rattle.timetable.specs.Ids.{has_id}
use Rattle.timetable.proofs.IdLemmas.{has-at}
use Rattle.timetable.proofs.ids.Ids.number_from.Goals as goal

pub returns-then-is_at-clause-ids : goal.returns-then-is_at-clause-ids
returns-then-is_at-clause-ids c =
    let has : has_id c.args.id.now c.args.self.now ≡ true =
    has-at c.args.self.now c.args.number c.args.id.now
    (rw c.as_bytes.ensures.value at (c.is_at.ensures c.if-is_at.true)) in
    rw has refl
