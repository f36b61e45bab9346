-- What stays while connections are passed over: all that a contract sees of the door.
use Rattle.std.proofs.Common.{◌≡◌}
use Rattle.tcp_door.proofs.door.TcpDoor.accept.Given as goal

abbrev pub invariant-loop : goal.invariant-loop
invariant-loop g l = l.self ≡ l.fn.self
