-- The last record of a delivery that can be served can be served.
use Rattle.std.proofs.Common.{IfSome, subst}
use Rattle.siri_calls.specs.Servable.{IsServable}
use Rattle.library_cases.proofs.written.written_of.Goals as goal

pub written-requires : goal.written-requires
written-requires c = λ x found.
    subst (λ one. IfSome one (IsServable c.args.context.now)) found (c.last_record.ensures c.args.context.now c.requires)
