-- The header means itself, and what stands after it is what the gateway keeps.
use Rattle.std.proofs.Common.{subst}
use Rattle.timetable.specs.Seen.{seen}
use Rattle.timetable.specs.Sound.{IsSound}
use Rattle.gateway_core.specs.Standing.{Kept}
use Rattle.gateway_core.proofs.ServingLemmas.{stands_gives, stands_rebuilt}
use Rattle.gateway_core.proofs.laws.serves_what_arrived_law.Goals as goal

pub returns-clause-rebuilt : goal.returns-clause-rebuilt
returns-clause-rebuilt c = λ arrivals stands.
    stands_rebuilt c.args.gate.now arrivals c.args.moment (rw c.header_bytes-header.ensures.written at c.header_bytes-header.ensures.means) stands

pub returns-clause-gives : goal.returns-clause-gives
returns-clause-gives c = λ arrivals stands.
    stands_gives c.args.gate.now arrivals c.args.moment (rw c.header_bytes-header.ensures.written at c.header_bytes-header.ensures.means) stands
    (subst (λ (k : Kept). IsSound (seen k.setting.table)) c.gate.view_is c.soundness_law.ensures)
