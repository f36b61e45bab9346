-- the connections so far
use Rattle.std.proofs.Common.{◌≡◌, ◌≤◌, ◌-◌, [], List, true, false}
use Rattle.gw_base.specs.Changes.{change}
use Rattle.gw_base.specs.Connections.{Connections}
use Rattle.gw_base.specs.Count.{Rose}
use Rattle.gw_base.specs.Limits.{body_limit}
use Rattle.delivery_journal.specs.Kept.{KeptBody}
use Rattle.gateway_server.specs.Past.{Past, StandsFor}
use Rattle.gateway_server.specs.Serving.{ServesAllAfter, Tells}
use Rattle.gateway_server.proofs.CauseLemmas.{CountsSoFar}
use Rattle.gateway_server.proofs.CrashLemmas.{KeepsSoFar}
use Rattle.gateway_server.proofs.connections.serve_with.Given as goal

abbrev pub invariant-loop-left : goal.invariant-loop-left
invariant-loop-left g l = record {
  absent : (g.D.Sink.beside l.door).present ≡ false;
  setting : (g.H.HoldsGateway.held l.host).gate.setting ≡ (g.H.HoldsGateway.held l.fn.host).gate.setting;
  door : g.D.Sink.faults l.fn.door ≤ g.D.Sink.faults l.door;
  clock : g.C.Clock.faults l.fn.clock ≤ g.C.Clock.faults l.clock;
  keeping : g.H.HoldsGateway.faults l.fn.beside ≤ g.H.HoldsGateway.faults l.beside;
  ready : (g.H.HoldsGateway.held l.host).is_sound ≡ true → g.H.HoldsGateway.is_ready l.host l.beside;
  failed : (g.H.HoldsGateway.held l.fn.host).is_sound ≡ true → (g.H.HoldsGateway.held l.host).is_sound ≡ false
      → Rose (g.H.HoldsGateway.faults l.fn.beside) (g.H.HoldsGateway.faults l.beside);
  few : l.left ≤ l.connections;
  small : g.H.Body.TakesBody.taken l.posted ≤ body_limit;
  serves : (told : Connections) → Tells (g.D.Sink.told l.fn.door) (g.D.Sink.beside l.fn.door) told → (past : Past) → StandsFor (g.H.HoldsGateway.held l.fn.host) past
      → ServesAllAfter (Rose (g.D.Sink.faults l.fn.door) (g.D.Sink.faults l.door)) (Rose (g.H.HoldsGateway.faults l.fn.beside) (g.H.HoldsGateway.faults l.beside)) g.H.HoldsGateway.room
      (g.H.HoldsGateway.held l.fn.host) past told (change g.C.Clock.told g.C.Clock.faults l.fn.clock l.clock)
      (g.D.Sink.told l.door) (g.D.Sink.beside l.door) (g.H.HoldsGateway.held l.host) (l.connections - l.left);
  counted : (told : Connections) → Tells (g.D.Sink.told l.fn.door) (g.D.Sink.beside l.fn.door) told → (past : Past) → StandsFor (g.H.HoldsGateway.held l.fn.host) past
      → CountsSoFar (Rose (g.H.HoldsGateway.faults l.fn.beside) (g.H.HoldsGateway.faults l.beside)) g.H.HoldsGateway.room (g.H.HoldsGateway.held l.fn.host).gate.setting past told
      (g.D.Sink.told l.door) (g.D.Sink.beside l.door) (g.H.HoldsGateway.held l.host) (g.D.Sink.faults l.fn.door) (g.D.Sink.faults l.door)
      (g.C.Clock.faults l.fn.clock) (g.C.Clock.faults l.clock);
  kept : (told : Connections) → Tells (g.D.Sink.told l.fn.door) (g.D.Sink.beside l.fn.door) told → (past : Past) → StandsFor (g.H.HoldsGateway.held l.fn.host) past
      → (first : g.row.K.Denot) (before : List KeptBody) → g.H.HoldsGateway.keeps first before [] l.fn.host l.fn.beside
      → KeepsSoFar (λ (taken failed : List KeptBody). g.H.HoldsGateway.keeps first taken failed l.host l.beside) before told (g.D.Sink.told l.door) (g.D.Sink.beside l.door) (g.H.HoldsGateway.held l.host);
}

abbrev pub decreases-loop-left : goal.decreases-loop-left
decreases-loop-left g l = l.left
