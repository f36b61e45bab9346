-- What is served over a gateway by itself, and how the connection ends.
use Rattle.std.proofs.Common.{subst}
use Rattle.gw_base.specs.Changes.{change}
use Rattle.gw_base.specs.Count.{Rose}
use Rattle.gw_base.specs.declared.door.Entry.{Entry}
use Rattle.gateway_server.specs.Completeness.{Completes}
use Rattle.gateway_server.proofs.DurableLemmas.{one_entry}
use Rattle.gateway_server.proofs.LoopLemmas.{bare_past, serves_bare, stands_bare}
use Rattle.gateway_server.proofs.connection.serve_one.Goals as goal

pub returns-clause-serves : goal.returns-clause-serves
returns-clause-serves g c = λ told fresh arrivals stands.
    serves_bare (Rose (g.D.Sink.faults c.args.door.now) (g.D.Sink.faults c.serve_one_with.new.door)) c.args.gate.now c.serve_one_with.new.host arrivals told
    (change g.C.Clock.told g.C.Clock.faults c.args.clock.now c.serve_one_with.new.clock) (g.D.Sink.told c.serve_one_with.new.door) (g.D.Sink.beside c.serve_one_with.new.door)
    (c.serve_one_with.ensures.serves told fresh (bare_past arrivals) (stands_bare c.args.gate.now arrivals stands))

pub returns-clause-completes : goal.returns-clause-completes
returns-clause-completes g c = λ told fresh arrivals stands entry logged.
    let serves = serves_bare (Rose (g.D.Sink.faults c.args.door.now) (g.D.Sink.faults c.serve_one_with.new.door)) c.args.gate.now c.serve_one_with.new.host arrivals told
    (change g.C.Clock.told g.C.Clock.faults c.args.clock.now c.serve_one_with.new.clock) (g.D.Sink.told c.serve_one_with.new.door) (g.D.Sink.beside c.serve_one_with.new.door)
    (c.serve_one_with.ensures.serves told fresh (bare_past arrivals) (stands_bare c.args.gate.now arrivals stands)) in
    subst (λ (one : Entry). Completes (Rose (g.D.Sink.faults c.args.door.now) (g.D.Sink.faults c.serve_one_with.new.door)) c.args.gate.now.setting arrivals one)
    (one_entry told (g.D.Sink.beside c.serve_one_with.new.door) serves.entry entry serves.logged logged)
    (c.what_is_well_formed_is_taken_law.ensures.taken (g.D.Sink.faults c.args.door.now) (g.D.Sink.faults c.serve_one_with.new.door) c.args.gate.now.setting arrivals serves.entry serves.lawful)
