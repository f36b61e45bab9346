use Rattle.std.proofs.Common.{refl}
use Rattle.wire_fields.proofs.Tops.{stands_between, stands_cut}
use Rattle.wire_fields.proofs.top.reader.TopReader.end.Goals as goal

pub returns-then-is_between-clause-says : goal.returns-then-is_between-clause-says
returns-then-is_between-clause-says c = λ bytes s. stands_between c.args.self.now bytes s (rw c.if-is_between.true at c.is_between.ensures)

pub returns-clause-says : goal.returns-clause-says
returns-clause-says c = λ bytes s. rw c.fault.ensures (stands_cut c.args.self.now bytes s (rw c.if-is_between.false at c.is_between.ensures), refl)
