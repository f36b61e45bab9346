-- What is served over a gateway by itself.
use Rattle.gw_base.specs.Changes.{change}
use Rattle.gw_base.specs.Count.{Rose}
use Rattle.gateway_server.proofs.LoopLemmas.{bare_past, counts_bare, end_bare, serves_all_bare, stands_bare}
use Rattle.gateway_server.specs.Serving.{failures}
use Rattle.gateway_server.proofs.connections.serve.Goals as goal

pub returns-clause-serves : goal.returns-clause-serves
returns-clause-serves g c = λ told tells arrivals stands.
    let got = c.serve_with-end.ensures.serves told tells (bare_past arrivals) (stands_bare c.args.gate.now arrivals stands) in (
      got.0,
      got.1,
      serves_all_bare (Rose (g.D.Sink.faults c.args.door.now) (g.D.Sink.faults c.serve_with-end.new.door)) c.args.gate.now c.serve_with-end.new.host arrivals told
          (change g.C.Clock.told g.C.Clock.faults c.args.clock.now c.serve_with-end.new.clock) (g.D.Sink.told c.serve_with-end.new.door) (g.D.Sink.beside c.serve_with-end.new.door) got.0 got.2,
      end_bare c.serve_with-end.result got.0 c.args.connections (g.D.Sink.beside c.serve_with-end.new.door) got.3,
    )

pub returns-clause-causes : goal.returns-clause-causes
returns-clause-causes g c = λ told left tells ends arrivals stands logged log.
    counts_bare c.args.gate.now.setting arrivals logged (failures c.serve_with-end.result) (g.D.Sink.faults c.args.door.now) (g.D.Sink.faults c.serve_with-end.new.door)
    (g.C.Clock.faults c.args.clock.now) (g.C.Clock.faults c.serve_with-end.new.clock)
    (c.serve_with-end.ensures.causes told left tells ends (bare_past arrivals) (stands_bare c.args.gate.now arrivals stands) logged log)
