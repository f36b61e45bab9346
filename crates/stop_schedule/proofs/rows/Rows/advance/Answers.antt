use Rattle.std.proofs.Common.{◌≡◌, [], ◌∷◌}
use Rattle.std.specs.Bool.{MatchBool}
use Rattle.csv.specs.Records.{fields_of}
use Rattle.stop_schedule.specs.RowReader.{rows_of}
use Rattle.stop_schedule.proofs.RowLemmas.{rows_of-next}
use Rattle.stop_schedule.proofs.rows.Rows.advance.Goals as goal

pub returns-then-not-found-clause-reads : goal.returns-then-not-found-clause-reads
returns-then-not-found-clause-reads c =
    let new = c.read_byte_record.new in
    let read : MatchBool c.in-Ok.found (c.args.self.now.left ≡ fields_of new.row ∷ rows_of new.self)
    (c.args.self.now.left ≡ []) =
    rw (← c.self.view_is)
    (rows_of-next c.self.inside.reader new.self c.in-Ok.found (fields_of new.row) c.self.invariant
    (λ failed. let none = c.in-Ok.ensures.failed failed in cc none)
    c.in-Ok.ensures.reads) in
    rw c.if-not-found.true (rw c.if-not-found.true at read)

pub returns-else-not-found-clause-reads : goal.returns-else-not-found-clause-reads
returns-else-not-found-clause-reads c =
    let new = c.read_byte_record.new in
    rw (← c.self.view_is) (rows_of-next c.self.inside.reader new.self c.in-Ok.found (fields_of new.row) c.self.invariant
    (λ failed. let none = c.in-Ok.ensures.failed failed in cc none)
    c.in-Ok.ensures.reads)
