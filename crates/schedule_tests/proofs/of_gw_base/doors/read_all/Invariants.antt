-- the connection is still present
use Rattle.std.proofs.Common.{◌≡◌, true}
use Rattle.schedule_tests.proofs.of_gw_base.doors.read_all.Given as goal

abbrev pub invariant-loop : goal.invariant-loop
invariant-loop g l = (g.D.Sink.beside l.door).present ≡ true
