use Rattle.std.proofs.Common.{◌++◌, take}
use Rattle.wire_fields.specs.TopReading.{IsBegun}
use Rattle.wire_fields.specs.TopSteps.{Chains}
use Rattle.wire_fields.proofs.Parts.{tagged_on}
use Rattle.wire_fields.proofs.top.advance.advance_value.Goals as goal

pub returns-clause-turns : goal.returns-clause-turns
returns-clause-turns c = λ read h.
    let more = take c.read_chain-used.result.0 c.args.bytes.now in
    let chained = c.read_chain-used.result.1 in
    c.value_turn.ensures.turns h.0 (read ++ more) (tagged_on h.0 0 (IsBegun c.args.chain) (Chains chained) read more h.1 (λ rest k. c.read_chain-used.ensures.chains rest k))
